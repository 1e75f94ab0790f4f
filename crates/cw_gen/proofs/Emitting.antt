-- The effect of filling a reserved jump, and whether a block surely returns, statement by statement.
use Rattle.std.proofs.Common.{◌≡◌, ℕ, ◌+◌, ◌-◌, ◌≤◌, List, [], ◌∷◌, ◌++◌, length, Bool, false, refl, sym, ap, ◌∙◌, arith, append_assoc, length-append}
use Rattle.std.specs.Prelude.{slice_set}
use Rattle.std.proofs.Math.Seq.{set-append_seam}
use Rattle.cw_loops.specs.Slotted.{Block, End, Then}
use Rattle.cw_code.specs.declared.code.Instr.{Instr}
use Rattle.cw_code.specs.declared.code.Instr.TheVariants as instr
use Rattle.cw_gen.specs.Emit.{stmt_returns, returns, distance, emitted_over, past, emitted_branches, emitted_turn}

-- whether a block surely returns, given whether the statements before it do
abbrev pub returns_after : Bool → Block → Bool
returns_after before End = before
returns_after before (Then line s b) = returns_after (stmt_returns s) b

pub block_returns_after : (b : Block) → returns_after false b ≡ returns b
block_returns_after End = refl
block_returns_after (Then line s End) = refl
block_returns_after (Then line s (Then line' s' b)) = block_returns_after (Then line' s' b)

-- filling a reserved instruction replaces only this instruction
pub filled : (old body : List Instr) (i j : Instr) → slice_set ((old ++ i ∷ []) ++ body) (length old) j ≡ old ++ j ∷ body
filled old body i j = ap (λ l. slice_set l (length old) j) (append_assoc old (i ∷ []) body) ∙ set-append_seam old i body j

behind : (old body : List Instr) (i : Instr) → length ((old ++ i ∷ []) ++ body) - length old - 1 ≡ length body
behind old body i = omega (arith, length-append (old ++ i ∷ []) body, length-append old (i ∷ []))

-- filling the test before skipped code results in `emitted_over`
pub over_filled : (old body all : List Instr) (i : Instr) (n : ℕ) → all ≡ (old ++ i ∷ []) ++ body → n ≡ distance (length all - length old - 1)
    → slice_set all (length old) (instr.SkipIfZero n) ≡ old ++ emitted_over body
over_filled old body all i n is at =
    ap (λ k. slice_set all (length old) (instr.SkipIfZero k)) (at ∙ ap (λ l. distance (length l - length old - 1)) is ∙ ap distance (behind old body i))
    ∙ ap (λ l. slice_set l (length old) (instr.SkipIfZero (distance (length body)))) is
    ∙ filled old body i (instr.SkipIfZero (distance (length body)))

-- filling both jumps of two branches results in `emitted_branches`
pub branches_filled : (old one other first all : List Instr) (does : Bool) (i : Instr) (k n m : ℕ)
    → first ≡ ((old ++ i ∷ []) ++ one) ++ instr.Skip k ∷ [] → n ≡ distance (length first - length old - 1) →
    all ≡ slice_set first (length old) (instr.SkipIfZero n) ++ other → m ≡ past does (length all - length ((old ++ i ∷ []) ++ one) - 1) →
    slice_set all (length ((old ++ i ∷ []) ++ one)) (instr.Skip m) ≡ old ++ emitted_branches does one other
branches_filled old one other first all does i k n m is at whole at' =
    let jump = instr.Skip k in
    let test = instr.SkipIfZero (distance (length (one ++ jump ∷ []))) in
    let place = length ((old ++ i ∷ []) ++ one) in
    let front = old ++ test ∷ one in
    let n_front : place ≡ length front = omega (arith, length-append (old ++ i ∷ []) one, length-append old (i ∷ []), length-append old (test ∷ one)) in
    let lands : slice_set first (length old) (instr.SkipIfZero n) ≡ old ++ emitted_over (one ++ jump ∷ []) =
    over_filled old (one ++ jump ∷ []) first i n (is ∙ append_assoc (old ++ i ∷ []) one (jump ∷ [])) at in
    let all_is : all ≡ (front ++ jump ∷ []) ++ other = whole ∙ ap (λ l. l ++ other) (lands ∙ sym (append_assoc old (test ∷ one) (jump ∷ []))) in
    let left : length all - place - 1 ≡ length other = omega (arith, ap length all_is, length-append (front ++ jump ∷ []) other, length-append front (jump ∷ []), n_front) in
    let same_length : length (one ++ jump ∷ []) ≡ length (one ++ instr.Skip (past does (length other)) ∷ []) =
    omega (arith, length-append one (jump ∷ []), length-append one (instr.Skip (past does (length other)) ∷ [])) in
    ap (λ q. slice_set all place (instr.Skip q)) (at' ∙ ap (past does) left)
    ∙ ap (λ l. slice_set l place (instr.Skip (past does (length other)))) all_is
    ∙ ap (λ p. slice_set ((front ++ jump ∷ []) ++ other) p (instr.Skip (past does (length other)))) n_front
    ∙ filled front other jump (instr.Skip (past does (length other)))
    ∙ append_assoc old (test ∷ one) (instr.Skip (past does (length other)) ∷ other)
    ∙ ap (λ q. old ++ instr.SkipIfZero (distance q) ∷ (one ++ instr.Skip (past does (length other)) ∷ other)) same_length
    ∙ ap (λ l. old ++ instr.SkipIfZero (distance (length (one ++ instr.Skip (past does (length other)) ∷ []))) ∷ l) (sym (append_assoc one (instr.Skip (past does (length other)) ∷ []) other))

-- filling the test of an iteration results in `emitted_turn`
pub turn_filled : (old body mid all : List Instr) (start : ℕ) (i : Instr) (n m : ℕ) → start ≤ length old → mid ≡ (old ++ i ∷ []) ++ body
    → n ≡ distance (length mid - start) → all ≡ mid ++ instr.GoBack n ∷ [] → m ≡ distance (length all - length old - 1) →
    slice_set all (length old) (instr.SkipIfZero m) ≡ old ++ emitted_turn (length old - start) body
turn_filled old body mid all start i n m le is at whole at' =
    let back : length mid - start ≡ length old - start + 1 + length body = omega (arith, le, ap length is, length-append (old ++ i ∷ []) body, length-append old (i ∷ [])) in
    let jump = instr.GoBack (distance (length old - start + 1 + length body)) in
    over_filled old (body ++ jump ∷ []) all i m (whole ∙ ap (λ k. mid ++ instr.GoBack k ∷ []) (at ∙ ap distance back) ∙ ap (λ l. l ++ jump ∷ []) is ∙ append_assoc (old ++ i ∷ []) body (jump ∷ [])) at'

-- the code of both branches results from the steps of the generator
pub if_else_emitted : (start test_code h0 h1 b1 first landed all new one other : List Instr) (test end : ℕ) (does found : Bool)
    → h0 ≡ start ++ test_code → h1 ≡ h0 ++ instr.Skip 0 ∷ [] → test ≡ length h0 → b1 ≡ h1 ++ one → found ≡ does →
    first ≡ b1 ++ instr.Skip 0 ∷ [] → end ≡ length b1 → landed ≡ slice_set first test (instr.SkipIfZero (distance (length first - test - 1)))
    → all ≡ landed ++ other → new ≡ slice_set all end (instr.Skip (past found (length all - end - 1))) →
    new ≡ start ++ (test_code ++ emitted_branches does one other)
if_else_emitted start test_code h0 h1 b1 first landed all new one other test end does found eh0 eh1 etest eb1 er efirst eend elanded eall enew =
    let i = instr.Skip 0 in
    let b1_is : b1 ≡ (h0 ++ i ∷ []) ++ one = eb1 ∙ ap (λ l. l ++ one) eh1 in
    let first_is : first ≡ ((h0 ++ i ∷ []) ++ one) ++ i ∷ [] = efirst ∙ ap (λ l. l ++ i ∷ []) b1_is in
    let all_is : all ≡ slice_set first (length h0) (instr.SkipIfZero (distance (length first - length h0 - 1))) ++ other = eall
    ∙ ap (λ l. l ++ other) (elanded ∙ ap (λ p. slice_set first p (instr.SkipIfZero (distance (length first - p - 1)))) etest) in
    let place = length ((h0 ++ i ∷ []) ++ one) in
    enew
    ∙ ap (λ p. slice_set all p (instr.Skip (past found (length all - p - 1)))) (eend ∙ ap length b1_is)
    ∙ ap (λ q. slice_set all place (instr.Skip (past q (length all - place - 1)))) er
    ∙ branches_filled h0 one other first all does i 0 (distance (length first - length h0 - 1)) (past does (length all - place - 1)) first_is refl all_is refl
    ∙ ap (λ l. l ++ emitted_branches does one other) eh0
    ∙ append_assoc start test_code (emitted_branches does one other)

-- the code of a `while` results from the steps of the generator
pub while_emitted : (start test_code h0 new body : List Instr) (from : ℕ) → from ≡ length start → h0 ≡ start ++ test_code
    → new ≡ h0 ++ emitted_turn (length h0 - from) body → new ≡ start ++ (test_code ++ emitted_turn (length test_code) body)
while_emitted start test_code h0 new body from efrom eh0 enew =
    let n : length h0 - from ≡ length test_code = omega (arith, ap length eh0, length-append start test_code, efrom) in
    enew
    ∙ ap (λ k. h0 ++ emitted_turn k body) n
    ∙ ap (λ l. l ++ emitted_turn (length test_code) body) eh0
    ∙ append_assoc start test_code (emitted_turn (length test_code) body)
