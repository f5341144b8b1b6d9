use Rattle.job_format.proofs.Exacts.{only, every, cells, texts, marks, ranges, queries, first}
use Rattle.job_format.proofs.exact.format_stands.Goals as goal

pub returns : goal.returns
returns c = record { only = only; every = every; cells = cells; texts = texts; marks = marks; ranges = ranges; queries = queries; first = first }
