-- A `&` to cells is a `&` to a row, if the cells are owned or only a part of the right is. Assumes `Logic`.
use denote.Param.Shared.{copy_shared}
use denote.Struct.Field.{RawPtr-field, usize-field}
use denote.Struct.Laws.{RawPtr-copy, usize-copy}
use denote.Struct.Lending.{of_Lends}
use mathlib.Core.List.{[]}
use contract.BorrowLft.{meet_⊑_right}
use Rattle.cw_slices.proofs.Readers.{lent_laws, Lends-held}
use Rattle.cw_slices.specs.contracts.cells.Cells as C
use Rattle.cw_slices.proofs.cells.Cells.TheLaw.Statement.{statement}

pub shares : statement
shares = of_Lends C.struct C.the_codes C.the_heap C.the_lent (λ d p. lent_laws d.ptr d.len d.items d.filled)
    (copy_shared RawPtr-field RawPtr-copy, (copy_shared usize-field usize-copy, tt))
    (λ M 𝓤 𝓛 d p. Lends-held 𝓛 (C.the_row).lives (meet_⊑_right (C.the_row).lives []) d.halved d.ptr d.len d.items d.filled)
