-- The codes of entries and of chunks, split at the next one.
use Rattle.std.proofs.Common.{◌≡◌, ◌≤◌, ◌<◌, ◌+◌, ℕ, List, [], ◌∷◌, ◌++◌, length, arith, refl, ap, sym, ◌∙◌, drop, get_or}
use Rattle.std.specs.Global.{Vec}
use Rattle.std.proofs.lemmas.List.{append_assoc, drop_more}
use Rattle.cw_greedy.specs.declared.code.Code.{Code}
use Rattle.cw_greedy.specs.declared.code.Code.TheVariants.{Instructions, Spawned, Ended, Joined, Called}
use Rattle.cw_greedy.specs.declared.entry.Cut.{Cut}
use Rattle.cw_greedy.specs.declared.entry.Cut.TheVariants as cut
use Rattle.cw_greedy.specs.declared.entry.Entry.{Entry}
use Rattle.cw_greedy.specs.Entries.{code_of_cut, codes_of_entry, codes_of_entries, codes_of_chunks}
use Rattle.cw_greedy.specs.Recorded.{cuts}
use Rattle.cw_greedy_schedule.specs.Reading.{instructions, spawned}

-- the next entry, and the next chunk
pub next_entry : (entries : List Entry) (i : ℕ) (d : Entry) (later : List Code) → i < length entries
    → codes_of_entries (drop i entries) ++ later ≡ codes_of_entry (get_or entries i d) ++ (codes_of_entries (drop (i + 1) entries) ++ later)
next_entry entries i d later l =
    let e = get_or entries i d in
    ap (λ (es : List Entry). codes_of_entries es ++ later) (drop_more entries i d l)
    ∙ append_assoc (codes_of_entry e) (codes_of_entries (drop (i + 1) entries)) later

pub next_chunk : (chunks : List (Vec Entry)) (i : ℕ) (chunk : Vec Entry) (entries : List Entry) → i < length chunks → chunk ≡ get_or chunks i chunk
    → entries ≡ chunk.items → codes_of_chunks (drop i chunks) ≡ codes_of_entries entries ++ codes_of_chunks (drop (i + 1) chunks)
next_chunk chunks i chunk entries l is e =
    let later = codes_of_chunks (drop (i + 1) chunks) in
    ap codes_of_chunks (drop_more chunks i chunk l)
    ∙ ap (λ (v : Vec Entry). codes_of_entries v.items ++ later) (sym is)
    ∙ ap (λ (es : List Entry). codes_of_entries es ++ later) (sym e)

-- the instructions of a chunk
instructions_of_cut : (c : Cut) (codes : List Code) → instructions (code_of_cut c ++ codes) ≡ instructions codes
instructions_of_cut cut.Nothing codes = refl
instructions_of_cut (cut.Spawned first) codes = refl
instructions_of_cut cut.Ended codes = refl
instructions_of_cut cut.Joined codes = refl
instructions_of_cut cut.Called codes = refl

pub instructions-append : (a b : List Code) → instructions (a ++ b) ≡ instructions a + instructions b
instructions-append [] b = omega arith
instructions-append (Instructions n ∷ a) b = omega (arith, instructions-append a b)
instructions-append (Spawned first ∷ a) b = instructions-append a b
instructions-append (Ended ∷ a) b = instructions-append a b
instructions-append (Joined ∷ a) b = instructions-append a b
instructions-append (Called ∷ a) b = instructions-append a b

pub sum_entry : (entries : List Entry) (i : ℕ) (d : Entry) → i < length entries
    → instructions (codes_of_entries (drop i entries)) ≡ (get_or entries i d).before + instructions (codes_of_entries (drop (i + 1) entries))
sum_entry entries i d l =
    let e = get_or entries i d in
    let later = codes_of_entries (drop (i + 1) entries) in
    let next = ap (λ (es : List Entry). instructions (codes_of_entries es)) (drop_more entries i d l) in
    omega (arith, next, instructions_of_cut e.cut later)

pub sum_chunk : (chunks : List (Vec Entry)) (i : ℕ) (chunk : Vec Entry) (entries : List Entry) → i < length chunks → chunk ≡ get_or chunks i chunk
    → entries ≡ chunk.items → instructions (codes_of_chunks (drop i chunks)) ≡ instructions (codes_of_entries entries) + instructions (codes_of_chunks (drop (i + 1) chunks))
sum_chunk chunks i chunk entries l is e =
    ap instructions (next_chunk chunks i chunk entries l is e) ∙ instructions-append (codes_of_entries entries) (codes_of_chunks (drop (i + 1) chunks))

-- the spawns of a chunk
pub spawned-append : (a b : List Code) → spawned (a ++ b) ≡ spawned a + spawned b
spawned-append [] b = omega arith
spawned-append (Instructions n ∷ a) b = spawned-append a b
spawned-append (Spawned first ∷ a) b = omega (arith, spawned-append a b)
spawned-append (Ended ∷ a) b = spawned-append a b
spawned-append (Joined ∷ a) b = spawned-append a b
spawned-append (Called ∷ a) b = spawned-append a b

pub spawned_chunk : (chunks : List (Vec Entry)) (i : ℕ) (chunk : Vec Entry) (entries : List Entry) → i < length chunks → chunk ≡ get_or chunks i chunk
    → entries ≡ chunk.items → spawned (codes_of_chunks (drop i chunks)) ≡ spawned (codes_of_entries entries) + spawned (codes_of_chunks (drop (i + 1) chunks))
spawned_chunk chunks i chunk entries l is e =
    ap spawned (next_chunk chunks i chunk entries l is e) ∙ spawned-append (codes_of_entries entries) (codes_of_chunks (drop (i + 1) chunks))

-- each spawn is a cut
pub spawned_few : (codes : List Code) → spawned codes ≤ cuts codes
spawned_few [] = omega arith
spawned_few (Instructions n ∷ codes) = omega (arith, spawned_few codes)
spawned_few (Spawned first ∷ codes) = omega (arith, spawned_few codes)
spawned_few (Ended ∷ codes) = omega (arith, spawned_few codes)
spawned_few (Joined ∷ codes) = omega (arith, spawned_few codes)
spawned_few (Called ∷ codes) = omega (arith, spawned_few codes)
