use Rattle.typing.proofs.types.Rows.+join.Given as goal

abbrev pub decreases-join : goal.decreases-join
decreases-join l = l.a
