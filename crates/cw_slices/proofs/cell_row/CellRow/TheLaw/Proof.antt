-- A `&` to a row with cells out is a `&` to a row in which those places are empty. Assumes `Logic`.
use denote.Param.Shared.{copy_shared}
use denote.Struct.Field.{RawPtr-field, usize-field}
use denote.Struct.Laws.{RawPtr-copy, usize-copy}
use denote.Struct.Lending.{of_Lends}
use mathlib.Core.List.{[]}
use contract.BorrowLft.{meet_⊑_right}
use Rattle.cw_slices.specs.Blocks.{numbers, marks}
use Rattle.cw_slices.proofs.Readers.{lent_laws, Lends-kept}
use Rattle.cw_slices.specs.contracts.cell_row.CellRow as K
use Rattle.cw_slices.proofs.cell_row.CellRow.TheLaw.Statement.{statement}

pub shares : statement
shares = of_Lends K.struct K.the_codes K.the_heap K.the_lent (λ d p. lent_laws d.ptr d.len (numbers d.cells) (marks d.cells))
    (copy_shared RawPtr-field RawPtr-copy, (copy_shared usize-field usize-copy, tt))
    (λ M 𝓤 𝓛 d p. Lends-kept 𝓛 (K.the_row).lives (meet_⊑_right (K.the_row).lives []) d.ptr d.len d.cells d.rights d.ok)
