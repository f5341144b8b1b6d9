-- Every job that is held is a good one. Assumes nothing.
use Rattle.job_format.specs.Order.{Verified}
use Rattle.job.specs.Held.{job_bytes}
use Rattle.job.specs.declared.verified.Job.{Job}

pub job_verified : (j : Job) → Verified (job_bytes j)
job_verified j = record { framed = record { small = j.small; follow = j.follow; whole = j.whole }; cells = j.sound }
