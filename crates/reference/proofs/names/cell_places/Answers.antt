use Rattle.std.proofs.Common.{sym, ap, ◌∙◌}
use Rattle.semantics.specs.Programs.{cell_size}
use Rattle.reference.specs.CellsOf.{cell_of}
use Rattle.reference.proofs.names.cell_places.Goals as goal

pub returns-in-None : goal.returns-in-None
unfolding cell_size
returns-in-None c = sym (ap (λ x. cell_size (cell_of x)) c.in-None.is)

pub returns-in-Some : goal.returns-in-Some
unfolding cell_size
returns-in-Some c =
    c.len.ensures ∙ (c.in-Some.array.full ∙ sym (ap (λ x. cell_size (cell_of x)) c.in-Some.is))
