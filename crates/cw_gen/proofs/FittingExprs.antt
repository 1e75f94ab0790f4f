-- The code of expressions and arguments is well formed.
use Rattle.std.proofs.Common.{◌≡◌, ℕ, ◌+◌, ◌-◌, ◌<◌, ◌≤◌, List, [], ◌∷◌, ◌++◌, length, Bool, true, false, nat_lt, Some, refl, sym, ap, subst, arith, append_assoc, length-append}
use Rattle.std.specs.Prelude.{nat_le}
use Rattle.cw_facts.specs.Tests.{both_true, at_most, below}
use Rattle.cw_model.specs.Syntax.{is_array_param, Name, Expr, Number, Variable, Element, Length, Negative, Not, Binary, Param}
use Rattle.std.proofs.lemmas.List.{append-nil, length-replicate}
use Rattle.cw_model.specs.Ownership.{Taken}
use Rattle.cw_tree.specs.Resolved.{Locals, slot_of}
use Rattle.cw_tree.specs.lemmas.NamedSlots.{slot_in}
use Rattle.cw_loops.specs.Slotted.{slotted_argument}
use Rattle.cw_code.specs.declared.code.UnaryOperator.TheVariants as unary
use Rattle.cw_code.specs.declared.code.Instr.{Instr}
use Rattle.cw_code.specs.declared.code.Instr.TheVariants as instr
use Rattle.cw_code.specs.Fits.{Shape, has_array, none_empty, FlowsInto}
use Rattle.cw_gen.specs.Emit.{element_at, length_at, emitted_arg}
use Rattle.cw_gen.specs.Marks.{place_of, array_at}
use Rattle.cw_gen.proofs.Marked.{IsOwn, is_read, place_own, place_read, read_below, at_within, length_owned}
use Rattle.cw_gen.proofs.Fine.{IsUsable, ExprFine, ArgKept, arg_kept, ArgsFine}
use Rattle.cw_gen.proofs.Texts.{expr_code, args_code}
use Rattle.cw_gen.proofs.Codes.{arg_code, array_code}
use Rattle.cw_gen.proofs.EmptySlots.{CutsOpen, slot_is_full, array_is_full}
use Rattle.cw_gen.proofs.Shapes.{Opened, Shapes, arg_shapes, after_arg, args_after, expr_shapes, args_shapes, expr_as_many, args_as_many}
use Rattle.cw_gen.proofs.Settings.{Setting, HasShapesFrom, stands_front, stands_back, exact, table, size, HasRoom, FitsAt, AllFit, both_fit, made}

module _ (setting : Setting) where
  -- a slot that is not only read is a slot of the function
  pub own_below : (s : ℕ) → IsOwn setting.marks s → s < (size setting).arrays → array_at setting.marks s < setting.f.arrays
  own_below s own h =
      let n = (size setting).arrays in
      let all : length (none_empty n) ≡ n = length-replicate n false in
      let short : length setting.marks ≤ length (none_empty n) = omega (arith, all, setting.marks_fit) in
      omega (arith, all, at_within setting.marks s (none_empty n) own (omega (arith, h, all)), length_owned setting.marks (none_empty n) short, setting.many_read)

  module _ (opened : Opened) (locals : Locals) (taken : Taken) (room : HasRoom setting locals) (cuts : CutsOpen setting.marks opened locals taken) where
    abbrev here : ℕ → Shape
    here n = made setting opened locals taken n

    -- a usable name has a slot
    pub slot_is_there : (x : Name) → IsUsable locals.ints taken x → nat_lt (slot_of x locals.ints) (size setting).ints ≡ true
    slot_is_there x u = below (slot_of x locals.ints) (size setting).ints (omega (arith, slot_in x locals.ints u.declared, room.0))

    -- an array has a slot
    pub array_within : (x : Name) → IsUsable locals.arrays taken x → slot_of x locals.arrays < (size setting).arrays
    array_within x u = omega (arith, slot_in x locals.arrays u.declared, room.1)

    -- an array that is not only read has a number among the arrays
    pub array_is_there : (x : Name) → IsUsable locals.arrays taken x → IsOwn setting.marks (slot_of x locals.arrays) → nat_lt (array_at setting.marks (slot_of x locals.arrays)) setting.f.arrays ≡ true
    array_is_there x u own = below (array_at setting.marks (slot_of x locals.arrays)) setting.f.arrays (own_below (slot_of x locals.arrays) own (array_within x u))

    -- an array that is only read has a number among the readers
    reader_is_there : (s : ℕ) → is_read setting.marks s ≡ true → nat_lt (array_at setting.marks s) setting.f.readers ≡ true
    reader_is_there s r = below (array_at setting.marks s) setting.f.readers (omega (arith, read_below setting.marks s r, setting.many_read))

    -- the instruction that loads an element, from a slot or a reader, is well formed
    element_fits : (x : Name) (line place n : ℕ) → IsUsable locals.arrays taken x → FlowsInto (table setting) (place + 1) (here (n + 1))
        → FitsAt setting place (Some (here (n + 1))) (element_at (place_of setting.marks (slot_of x locals.arrays)) line)
    element_fits x line place n u leads = test (is_read setting.marks s) refl
      where
        s : ℕ
        s = slot_of x locals.arrays

        test : (b : Bool) → is_read setting.marks s ≡ b → FitsAt setting place (Some (here (n + 1))) (element_at (place_of setting.marks s) line)
        test true r =
            subst (λ l. FitsAt setting place (Some (here (n + 1))) (element_at l line)) (sym (place_read setting.marks s r))
            (reader_is_there s r, at_most 1 (n + 1) (omega arith), (leads, tt), refl)
        test false own =
            subst (λ l. FitsAt setting place (Some (here (n + 1))) (element_at l line)) (sym (place_own setting.marks s own)) (
              array_is_there x u own,
              both_true (has_array (here (n + 1)) (array_at setting.marks s)) (nat_le 1 (n + 1))
                  (array_is_full (size setting) opened locals taken x (n + 1) room.1 u own cuts) (at_most 1 (n + 1) (omega arith)),
              (leads, tt),
              refl,
            )

    -- the instruction that loads a length, from a slot or a reader, is well formed
    length_fits : (x : Name) (place n : ℕ) → IsUsable locals.arrays taken x → FlowsInto (table setting) (place + 1) (here (n + 1))
        → FitsAt setting place (Some (here n)) (length_at (place_of setting.marks (slot_of x locals.arrays)))
    length_fits x place n u leads = test (is_read setting.marks s) refl
      where
        s : ℕ
        s = slot_of x locals.arrays

        test : (b : Bool) → is_read setting.marks s ≡ b → FitsAt setting place (Some (here n)) (length_at (place_of setting.marks s))
        test true r = subst (λ l. FitsAt setting place (Some (here n)) (length_at l)) (sym (place_read setting.marks s r)) (reader_is_there s r, refl, (leads, tt), refl)
        test false own =
            subst (λ l. FitsAt setting place (Some (here n)) (length_at l)) (sym (place_own setting.marks s own))
            (array_is_there x u own, array_is_full (size setting) opened locals taken x n room.1 u own cuts, (leads, tt), refl)

    -- the first place of an expression accepts the shape before it
    pub expr_enters : (e : Expr) (place n : ℕ) (more : Shapes) → ExprFine locals taken e → HasShapesFrom setting.tab place (expr_shapes here n e ++ more) → FlowsInto (table setting) place (here n)
    expr_enters (Number v) place n more fine h = exact setting.tab place (here n) h.0
    expr_enters (Variable x) place n more fine h = exact setting.tab place (here n) h.0
    expr_enters (Length x) place n more fine h = exact setting.tab place (here n) h.0
    expr_enters (Element x e) place n more fine h = expr_enters e place n (Some (here (n + 1)) ∷ more) fine.1
        (subst (λ ss. HasShapesFrom setting.tab place ss) (append_assoc (expr_shapes here n e) (Some (here (n + 1)) ∷ []) more) h)
    expr_enters (Negative e) place n more fine h = expr_enters e place n (Some (here (n + 1)) ∷ more) fine
        (subst (λ ss. HasShapesFrom setting.tab place ss) (append_assoc (expr_shapes here n e) (Some (here (n + 1)) ∷ []) more) h)
    expr_enters (Not e) place n more fine h = expr_enters e place n (Some (here (n + 1)) ∷ more) fine
        (subst (λ ss. HasShapesFrom setting.tab place ss) (append_assoc (expr_shapes here n e) (Some (here (n + 1)) ∷ []) more) h)
    expr_enters (Binary operator d e) place n more fine h =
        expr_enters d place n ((expr_shapes here (n + 1) e ++ Some (here (n + 1 + 1)) ∷ []) ++ more) fine.0
        (subst (λ ss. HasShapesFrom setting.tab place ss) (append_assoc (expr_shapes here n d) (expr_shapes here (n + 1) e ++ Some (here (n + 1 + 1)) ∷ []) more) h)

    -- the code of an expression is well formed, and leaves one more operand
    pub expr_fits : (e : Expr) (line place n : ℕ) → ExprFine locals taken e → HasShapesFrom setting.tab place (expr_shapes here n e)
        → FlowsInto (table setting) (place + length (expr_code setting.marks locals line e)) (here (n + 1))
        → AllFit setting place (expr_shapes here n e) (expr_code setting.marks locals line e)
    expr_fits (Number v) line place n fine stands leads = ((refl, refl, (leads, tt), refl), tt)
    expr_fits (Variable x) line place n fine stands leads = ((slot_is_there x fine, slot_is_full (size setting) opened locals taken x n room.0 fine, (leads, tt), refl), tt)
    expr_fits (Element x e) line place n fine stands leads =
        let ce = expr_code setting.marks locals line e in
        let i = element_at (place_of setting.marks (slot_of x locals.arrays)) line in
        let ss = expr_shapes here n e in
        let top = stands_back setting.tab place (length ce) ss (Some (here (n + 1)) ∷ []) (expr_as_many here n setting.marks locals line e) stands in
        let at : place + length (ce ++ i ∷ []) ≡ place + length ce + 1 = omega (arith, length-append ce (i ∷ [])) in
        both_fit setting place ss (Some (here (n + 1)) ∷ []) ce (i ∷ [])
        (expr_fits e line place n fine.1 (stands_front setting.tab place ss (Some (here (n + 1)) ∷ []) stands)
        (exact setting.tab (place + length ce) (here (n + 1)) top.0))
        (element_fits x line (place + length ce) n fine.0 (subst (λ p. FlowsInto (table setting) p (here (n + 1))) at leads), tt)
    expr_fits (Length x) line place n fine stands leads = (length_fits x place n fine leads, tt)
    expr_fits (Negative e) line place n fine stands leads =
        let ce = expr_code setting.marks locals line e in
        let i = instr.Unary unary.Negative line in
        let ss = expr_shapes here n e in
        let top = stands_back setting.tab place (length ce) ss (Some (here (n + 1)) ∷ []) (expr_as_many here n setting.marks locals line e) stands in
        let at : place + length (ce ++ i ∷ []) ≡ place + length ce + 1 = omega (arith, length-append ce (i ∷ [])) in
        both_fit setting place ss (Some (here (n + 1)) ∷ []) ce (i ∷ [])
        (expr_fits e line place n fine (stands_front setting.tab place ss (Some (here (n + 1)) ∷ []) stands)
        (exact setting.tab (place + length ce) (here (n + 1)) top.0))
        ((refl, at_most 1 (n + 1) (omega arith), (subst (λ p. FlowsInto (table setting) p (here (n + 1))) at leads, tt), refl), tt)
    expr_fits (Not e) line place n fine stands leads =
        let ce = expr_code setting.marks locals line e in
        let i = instr.Unary unary.Not line in
        let ss = expr_shapes here n e in
        let top = stands_back setting.tab place (length ce) ss (Some (here (n + 1)) ∷ []) (expr_as_many here n setting.marks locals line e) stands in
        let at : place + length (ce ++ i ∷ []) ≡ place + length ce + 1 = omega (arith, length-append ce (i ∷ [])) in
        both_fit setting place ss (Some (here (n + 1)) ∷ []) ce (i ∷ [])
        (expr_fits e line place n fine (stands_front setting.tab place ss (Some (here (n + 1)) ∷ []) stands)
        (exact setting.tab (place + length ce) (here (n + 1)) top.0))
        ((refl, at_most 1 (n + 1) (omega arith), (subst (λ p. FlowsInto (table setting) p (here (n + 1))) at leads, tt), refl), tt)
    expr_fits (Binary operator d e) line place n fine stands leads =
        let cd = expr_code setting.marks locals line d in
        let ce = expr_code setting.marks locals line e in
        let i = instr.Binary operator line in
        let sd = expr_shapes here n d in
        let se = expr_shapes here (n + 1) e in
        let last = Some (here (n + 1 + 1)) ∷ [] in
        let second = stands_back setting.tab place (length cd) sd (se ++ last) (expr_as_many here n setting.marks locals line d) stands in
        let top = stands_back setting.tab (place + length cd) (length ce) se last (expr_as_many here (n + 1) setting.marks locals line e) second in
        let at : place + length (cd ++ (ce ++ i ∷ [])) ≡ place + length cd + length ce + 1 = omega (arith, length-append cd (ce ++ i ∷ []), length-append ce (i ∷ [])) in
        let less : n + 1 ≡ n + 1 + 1 - 1 = omega arith in
        both_fit setting place sd (se ++ last) cd (ce ++ i ∷ []) (expr_fits d line place n fine.0
        (stands_front setting.tab place sd (se ++ last) stands) (expr_enters e (place + length cd) (n + 1) last fine.1 second))
        (both_fit setting (place + length cd) se last ce (i ∷ []) (expr_fits e line (place + length cd) (n + 1) fine.1
        (stands_front setting.tab (place + length cd) se last second) (exact setting.tab (place + length cd + length ce) (here (n + 1 + 1)) top.0)) (
          (
            refl,
            at_most 2 (n + 1 + 1) (omega arith),
            (
              subst (λ m. FlowsInto (table setting) (place + length cd + length ce + 1) (here m)) less
                  (subst (λ p. FlowsInto (table setting) p (here (n + 1))) at leads),
              tt,
            ),
            refl,
          ),
          tt,
        ))

    -- an expression and the instruction that uses its value are well formed
    pub valued_fits : (e : Expr) (line place : ℕ) (i : Instr) → ExprFine locals taken e
        → HasShapesFrom setting.tab place (expr_shapes here 0 e ++ Some (here 1) ∷ [])
        → FitsAt setting (place + length (expr_code setting.marks locals line e)) (Some (here 1)) i
        → AllFit setting place (expr_shapes here 0 e ++ Some (here 1) ∷ []) (expr_code setting.marks locals line e ++ i ∷ [])
    valued_fits e line place i fine stands last =
        let ce = expr_code setting.marks locals line e in
        let ss = expr_shapes here 0 e in
        let top = stands_back setting.tab place (length ce) ss (Some (here 1) ∷ []) (expr_as_many here 0 setting.marks locals line e) stands in
        both_fit setting place ss (Some (here 1) ∷ []) ce (i ∷ []) (expr_fits e line place 0 fine
        (stands_front setting.tab place ss (Some (here 1) ∷ []) stands) (exact setting.tab (place + length ce) (here 1) top.0)) (last, tt)

    -- the first place of an expression followed by the instruction that uses its value
    pub valued_enters : (e : Expr) (place : ℕ) (more : Shapes) → ExprFine locals taken e
        → HasShapesFrom setting.tab place ((expr_shapes here 0 e ++ Some (here 1) ∷ []) ++ more) → FlowsInto (table setting) place (here 0)
    valued_enters e place more fine h = expr_enters e place 0 (Some (here 1) ∷ [] ++ more) fine
        (subst (λ ss. HasShapesFrom setting.tab place ss) (append_assoc (expr_shapes here 0 e) (Some (here 1) ∷ []) more) h)

    -- the first place of arguments accepts the shape before it; without arguments the place after them accepts it
    pub args_enters : (ps : List Param) (es : List Expr) (line place n : ℕ) (more : Shapes) → ArgsFine setting.marks locals taken ps es
        → HasShapesFrom setting.tab place (args_shapes here n ps es ++ more) → FlowsInto (table setting)
        (place + length (args_code setting.marks locals line ps es)) (here (args_after n ps es)) → FlowsInto (table setting) place (here n)
    args_enters [] [] line place n more fine stands leads = let e : place + 0 ≡ place = omega arith in subst (λ p. FlowsInto (table setting) p (here n)) e leads
    args_enters [] (e ∷ es) line place n more fine stands leads = absurd fine
    args_enters (p ∷ ps) [] line place n more fine stands leads = absurd fine
    args_enters (p ∷ ps) (e ∷ es) line place n more fine stands leads =
        one (λ h k. args_enters ps es line place n more fine.1 h k) (is_array_param p) (arg_kept p.kind setting.marks locals taken e fine.0) stands leads
      where
        one : (HasShapesFrom setting.tab place (args_shapes here n ps es ++ more)
            → FlowsInto (table setting) (place + length (args_code setting.marks locals line ps es)) (here (args_after n ps es))
            → FlowsInto (table setting) place (here n)) → (b : Bool) → ArgKept b locals taken e →
            HasShapesFrom setting.tab place ((arg_shapes b here n e ++ args_shapes here (after_arg b n) ps es) ++ more)
            → FlowsInto (table setting) (place + length (args_code setting.marks locals line (p ∷ ps) (e ∷ es)))
            (here (args_after (after_arg b n) ps es)) → FlowsInto (table setting) place (here n)
        one rest true fine' h k = rest h (subst (λ q. FlowsInto (table setting) (place + q) (here (args_after n ps es)))
            (ap (λ is. length (is ++ args_code setting.marks locals line ps es)) (array_code setting.marks locals line (p ∷ ps) e fine')) k)
        one rest false fine' h k = expr_enters e place n (args_shapes here (n + 1) ps es ++ more) fine'.0
            (subst (λ ss. HasShapesFrom setting.tab place ss) (append_assoc (expr_shapes here n e) (args_shapes here (n + 1) ps es) more) h)

    -- the code of arguments is well formed, and leaves one operand for each integer
    pub args_fit : (ps : List Param) (es : List Expr) (line place n : ℕ) → ArgsFine setting.marks locals taken ps es
        → HasShapesFrom setting.tab place (args_shapes here n ps es) → FlowsInto (table setting)
        (place + length (args_code setting.marks locals line ps es)) (here (args_after n ps es))
        → AllFit setting place (args_shapes here n ps es) (args_code setting.marks locals line ps es)
    args_fit [] [] line place n fine stands leads = tt
    args_fit [] (e ∷ es) line place n fine stands leads = absurd fine
    args_fit (p ∷ ps) [] line place n fine stands leads = absurd fine
    args_fit (p ∷ ps) (e ∷ es) line place n fine stands leads = one (λ q m h k. args_fit ps es line q m fine.1 h k) (is_array_param p) (arg_kept p.kind setting.marks locals taken e fine.0) stands leads
      where
        ces : List Instr
        ces = args_code setting.marks locals line ps es

        one : ((q m : ℕ) → HasShapesFrom setting.tab q (args_shapes here m ps es) → FlowsInto (table setting) (q + length ces) (here (args_after m ps es))
            → AllFit setting q (args_shapes here m ps es) ces) → (b : Bool) → ArgKept b locals taken e →
            HasShapesFrom setting.tab place (arg_shapes b here n e ++ args_shapes here (after_arg b n) ps es)
            → FlowsInto (table setting) (place + length (args_code setting.marks locals line (p ∷ ps) (e ∷ es))) (here (args_after (after_arg b n) ps es)) →
            AllFit setting place (arg_shapes b here n e ++ args_shapes here (after_arg b n) ps es) (args_code setting.marks locals line (p ∷ ps) (e ∷ es))
        one rest true fine' h k =
            let none = array_code setting.marks locals line (p ∷ ps) e fine' in
            subst (λ is. AllFit setting place (args_shapes here n ps es) (is ++ ces)) (sym none)
            (rest place n h (subst (λ q. FlowsInto (table setting) (place + q) (here (args_after n ps es))) (ap (λ is. length (is ++ ces)) none) k))
        one rest false fine' h k =
            let ce = expr_code setting.marks locals line e in
            let one_code = emitted_arg setting.marks line (slotted_argument locals (p ∷ ps) e) in
            let same : one_code ≡ ce = arg_code setting.marks locals line (p ∷ ps) e fine'.1 in
            let ss = expr_shapes here n e in
            let more = args_shapes here (n + 1) ps es in
            let second = stands_back setting.tab place (length ce) ss more (expr_as_many here n setting.marks locals line e) h in
            let at : place + length (one_code ++ ces) ≡ place + length ce + length ces = omega (arith, length-append one_code ces, ap length same) in
            let leads' : FlowsInto (table setting) (place + length ce + length ces) (here (args_after (n + 1) ps es)) =
            subst (λ q. FlowsInto (table setting) q (here (args_after (n + 1) ps es))) at k in
            subst (λ is. AllFit setting place (ss ++ more) (is ++ ces)) (sym same)
            (both_fit setting place ss more ce ces (expr_fits e line place n fine'.0 (stands_front setting.tab place ss more h)
            (args_enters ps es line (place + length ce) (n + 1) [] fine.1
            (subst (λ ss'. HasShapesFrom setting.tab (place + length ce) ss') (sym (append-nil more)) second) leads'))
            (rest (place + length ce) (n + 1) second leads'))

    -- arguments and the instruction that takes them are well formed
    pub given_fits : (ps : List Param) (es : List Expr) (line place : ℕ) (i : Instr) (next : Shape) → ArgsFine setting.marks locals taken ps es
        → HasShapesFrom setting.tab place (args_shapes here 0 ps es ++ Some (here (args_after 0 ps es)) ∷ []) →
        (FlowsInto (table setting) (place + length (args_code setting.marks locals line ps es) + 1) next
        → FitsAt setting (place + length (args_code setting.marks locals line ps es)) (Some (here (args_after 0 ps es))) i)
        → FlowsInto (table setting) (place + length (args_code setting.marks locals line ps es ++ i ∷ [])) next →
        AllFit setting place (args_shapes here 0 ps es ++ Some (here (args_after 0 ps es)) ∷ []) (args_code setting.marks locals line ps es ++ i ∷ [])
    given_fits ps es line place i next fine stands last leads =
        let ces = args_code setting.marks locals line ps es in
        let ss = args_shapes here 0 ps es in
        let shape = here (args_after 0 ps es) in
        let top = stands_back setting.tab place (length ces) ss (Some shape ∷ []) (args_as_many here 0 setting.marks locals taken line ps es fine) stands in
        let behind : place + length (ces ++ i ∷ []) ≡ place + length ces + 1 = omega (arith, length-append ces (i ∷ [])) in
        both_fit setting place ss (Some shape ∷ []) ces (i ∷ []) (args_fit ps es line place 0 fine
        (stands_front setting.tab place ss (Some shape ∷ []) stands) (exact setting.tab (place + length ces) shape top.0))
        (last (subst (λ p. FlowsInto (table setting) p next) behind leads), tt)
