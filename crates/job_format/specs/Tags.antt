-- The number of each tag, which is the first byte of a record. Assumes nothing.
use Rattle.std.specs.Prelude.{ℕ, cond, Some, None, Option, ◌==◌}
use Rattle.job_format.specs.declared.tag.Tag.{Tag}
use Rattle.job_format.specs.declared.tag.Tag.TheVariants.{Cell, Mark, Range, Text, Query}

abbrev pub tag_number : Tag → ℕ
tag_number Cell = 1
tag_number Mark = 2
tag_number Range = 3
tag_number Text = 4
tag_number Query = 5

abbrev pub cell_tag : ℕ
cell_tag = tag_number Cell

abbrev pub mark_tag : ℕ
mark_tag = tag_number Mark

abbrev pub range_tag : ℕ
range_tag = tag_number Range

abbrev pub text_tag : ℕ
text_tag = tag_number Text

abbrev pub query_tag : ℕ
query_tag = tag_number Query

-- the tag with the number n
abbrev pub tag_of : ℕ → Option Tag
tag_of n =
    cond (n == cell_tag) (Some Cell)
    (cond (n == mark_tag) (Some Mark)
    (cond (n == range_tag) (Some Range)
    (cond (n == text_tag) (Some Text)
    (cond (n == query_tag) (Some Query) None))))
