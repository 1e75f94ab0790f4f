-- Storage of codes: each entry holds instructions and the cut after them.
use Rattle.std.specs.Global.{Vec}
use Rattle.std.specs.Prelude.{ℕ, ◌≡◌, List, [], ◌∷◌, ◌++◌, refl}
use Rattle.std.proofs.Common.{ap, sym, ◌∙◌}
use Rattle.std.proofs.lemmas.List.{append_assoc, append-nil}
use Rattle.cw_greedy.specs.declared.code.Code.{Code}
use Rattle.cw_greedy.specs.declared.code.Code.TheVariants.{Instructions, Spawned, Ended, Joined, Called}
use Rattle.cw_greedy.specs.declared.entry.Cut.{Cut}
use Rattle.cw_greedy.specs.declared.entry.Cut.TheVariants as cut
use Rattle.cw_greedy.specs.declared.entry.Entry.{Entry}

-- the code of a cut, if there is one
abbrev pub code_of_cut : Cut → List Code
code_of_cut cut.Nothing = []
code_of_cut (cut.Spawned first) = Spawned first ∷ []
code_of_cut cut.Ended = Ended ∷ []
code_of_cut cut.Joined = Joined ∷ []
code_of_cut cut.Called = Called ∷ []

-- an entry, by its parts
abbrev pub entry : (before : ℕ) → Cut → Entry
entry before cut = record { before = before; cut = cut }

-- the codes of an entry
abbrev pub codes_of_entry : Entry → List Code
codes_of_entry e = Instructions e.before ∷ code_of_cut e.cut

-- the codes of a list of entries
abbrev pub codes_of_entries : List Entry → List Code
codes_of_entries [] = []
codes_of_entries (e ∷ entries) = codes_of_entry e ++ codes_of_entries entries

-- entries are stored in consecutive chunks
abbrev pub codes_of_chunks : List (Vec Entry) → List Code
codes_of_chunks [] = []
codes_of_chunks (chunk ∷ chunks) = codes_of_entries chunk.items ++ codes_of_chunks chunks

-- the last chunk, which is being filled, is stored separately
abbrev pub codes_kept : List (Vec Entry) → (last : List Entry) → List Code
codes_kept chunks last = codes_of_chunks chunks ++ codes_of_entries last

pub entries-append : (a b : List Entry)
    → codes_of_entries (a ++ b) ≡ codes_of_entries a ++ codes_of_entries b
entries-append [] b = refl
entries-append (e ∷ a) b =
    ap (λ (l : List Code). codes_of_entry e ++ l) (entries-append a b)
    ∙ sym (append_assoc (codes_of_entry e) (codes_of_entries a) (codes_of_entries b))

pub chunks-append : (a b : List (Vec Entry))
    → codes_of_chunks (a ++ b) ≡ codes_of_chunks a ++ codes_of_chunks b
chunks-append [] b = refl
chunks-append (chunk ∷ a) b =
    ap (λ (l : List Code). codes_of_entries chunk.items ++ l) (chunks-append a b)
    ∙ sym (append_assoc (codes_of_entries chunk.items) (codes_of_chunks a) (codes_of_chunks b))

-- appends one entry
pub one_entry : (chunks : List (Vec Entry)) (last : List Entry) (e : Entry)
    → codes_kept chunks (last ++ e ∷ []) ≡ codes_kept chunks last ++ codes_of_entry e
one_entry chunks last e =
    ap (λ (l : List Code). codes_of_chunks chunks ++ l)
    (entries-append last (e ∷ [])
    ∙ ap (λ (l : List Code). codes_of_entries last ++ l) (append-nil (codes_of_entry e)))
    ∙ sym (append_assoc (codes_of_chunks chunks) (codes_of_entries last) (codes_of_entry e))

-- appends one chunk
pub one_chunk : (chunks : List (Vec Entry)) (chunk : Vec Entry)
    → codes_of_chunks (chunks ++ chunk ∷ []) ≡ codes_kept chunks chunk.items
one_chunk chunks chunk =
    chunks-append chunks (chunk ∷ [])
    ∙ ap (λ (l : List Code). codes_of_chunks chunks ++ l) (append-nil (codes_of_entries chunk.items))

-- concatenates the chunks of two pieces, with the current chunk of the second
pub two_pieces : (a b : List (Vec Entry)) (last : List Entry)
    → codes_kept (a ++ b) last ≡ codes_of_chunks a ++ codes_kept b last
two_pieces a b last =
    ap (λ (l : List Code). l ++ codes_of_entries last) (chunks-append a b)
    ∙ append_assoc (codes_of_chunks a) (codes_of_chunks b) (codes_of_entries last)
