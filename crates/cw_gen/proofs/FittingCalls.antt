-- Call instructions are well formed.
use Rattle.std.proofs.Common.{◌≡◌, ℕ, suc, ◌+◌, ◌-◌, ◌≤◌, List, [], ◌∷◌, ◌++◌, length, Bool, true, false, ◌&&◌, not}
use Rattle.std.proofs.Common.{if◌then◌else◌, nat_lt, Option, Some, None, refl, sym, ap, ◌∙◌, subst, arith, cond, filter}
use Rattle.std.specs.Prelude.{slice_get, map, nat_eq, option_map}
use Rattle.std.proofs.lemmas.Option.{slice_get_within}
use Rattle.cw_facts.specs.Tests.{both_true, first_true, second_true, at_most, below, equal, not_equal, not_true}
use Rattle.cw_model.specs.declared.syntax.CallKind.{CallKind}
use Rattle.cw_model.specs.declared.syntax.CallKind.TheVariants.{Plain, Spawned}
use Rattle.cw_model.specs.declared.syntax.NameKind.{NameKind}
use Rattle.cw_model.specs.declared.syntax.NameKind.TheVariants.{Integer, Array, Const}
use Rattle.cw_model.specs.Syntax.{Name, Expr, Variable, Call, Param, is_array_param, is_const_kind}
use Rattle.cw_model.specs.Names.{is_among, differ}
use Rattle.std.proofs.lemmas.List.{length-map}
use Rattle.std.proofs.lemmas.Bool.{or_parts}
use Rattle.cw_model.specs.Meaning.{function_named}
use Rattle.cw_model.specs.Sites.{Of}
use Rattle.cw_model.specs.Typing.{Nowhere}
use Rattle.std.specs.List.{list_any}
use Rattle.cw_model.specs.Ownership.{SpawnIn, ReaderIn, Taken, taken_by, frozen_by, target_names, names_in, arrays_lent}
use Rattle.cw_model.specs.Ownership as ownership
use Rattle.cw_tree.specs.Resolved.{Locals, slot_of, locals_of}
use Rattle.cw_tree.specs.lemmas.Names.{front_among, later_among}
use Rattle.cw_loops.specs.lemmas.Naming.{among_right}
use Rattle.cw_code.specs.declared.code.Callee.{Callee}
use Rattle.cw_code.specs.declared.code.Instr.TheVariants as instr
use Rattle.cw_code.specs.declared.code.Loan.{Loan}
use Rattle.cw_code.specs.Run.{slots_named, loans_named, passed_by, lent_by}
use Rattle.cw_code.specs.Fits.{params_of, array_params_of, readers_of, gives_value, is_kind, is_site, names_target, is_none_of, names_arrays, names_passed, names_loan}
use Rattle.cw_code.specs.Fits.{names_loans, names_lent, names_callee, has_array, has_arrays, has_loan, has_loans, has_target, has_arguments, full_in_all, none_frozen}
use Rattle.cw_code.specs.Fits.{frozen_rows, with_target, with_gone, with_passed, with_lent, slots_lent, leaves, Covers, CoversEach, FlowsInto}
use Rattle.cw_code.specs.lemmas.Slots.{covers_itself, each_covers_itself}
use Rattle.cw_gen.specs.Emit.{callee_of}
use Rattle.cw_gen.proofs.HeldNames.{held_after}
use Rattle.cw_gen.specs.Marks.{Marks, place_of, array_at, count_readers, readers_in}
use Rattle.cw_gen.proofs.Marked.{IsOwn, is_read, OwnSlots, numbers_at, place_own, place_read, at_apart, read_below}
use Rattle.cw_gen.proofs.MarkedParams.{counted_readers}
use Rattle.cw_gen.proofs.Frozen.{frozen_of, frozen_taken, frozen_read}
use Rattle.cw_gen.proofs.Texts.{taken_params}
use Rattle.cw_gen.proofs.Fine.{marks_for, Room, IsUsable, AllUsable, AllWritable, NotBoth, HasSite, ArgFine, ArgsFine, TargetFine, is_function, StmtFine}
use Rattle.cw_gen.proofs.Takens.{holds, holds_behind, held_by_spawn}
use Rattle.cw_gen.proofs.Names.{slots_apart}
use Rattle.cw_gen.proofs.EmptySlots.{row, array_row, array_covers, row_more, covers_name, covers_array, outers, outers_more, CutsOpen, slot_is_full, array_is_full, array_is_thawed}
use Rattle.cw_gen.proofs.Passing.{slots_for, all_usable, own_slots, writable_args, usable_lent, passed_slots, lent_slots, as_many_arrays, not_same}
use Rattle.cw_gen.proofs.Shapes.{Opened, depth_in, after_arg, args_after}
use Rattle.cw_gen.proofs.Settings.{Setting, takes_less, tables, table, size, HasRoom, FitsAt, made}
use Rattle.cw_gen.proofs.FittingExprs.{slot_is_there, array_is_there}

-- the number of operands is the number that the call takes
pub as_many_args : (marks : Marks) (locals : Locals) (taken : Taken) (n : ℕ) (ps : List Param) (es : List Expr) → ArgsFine marks locals taken ps es
    → args_after n ps es ≡ n + length (locals_of ps).ints
as_many_args marks locals taken n [] [] fine = omega arith
as_many_args marks locals taken n [] (e ∷ es) fine = absurd fine
as_many_args marks locals taken n (p ∷ ps) [] fine = absurd fine
as_many_args marks locals taken n (p ∷ ps) (e ∷ es) fine = as_many_args marks locals taken (after_arg (is_array_param p) n) ps es fine.1 ∙ one (is_array_param p)
  where
    one : (b : Bool) → after_arg b n + length (locals_of ps).ints ≡ n
        + length (map (λ (q : Param). q.name) (cond (not b) (p ∷ filter (λ q. not (is_array_param q)) ps) (filter (λ q. not (is_array_param q)) ps)))
    one true = refl
    one false = omega arith

-- the number of lent arrays is the number of read-only parameters
pub as_many_lent : (marks : Marks) (locals : Locals) (taken : Taken) (ps : List Param) (es : List Expr) → ArgsFine marks locals taken ps es
    → length (arrays_lent ps es) ≡ count_readers (map (λ p. p.kind) ps)
as_many_lent marks locals taken [] [] fine = refl
as_many_lent marks locals taken [] (e ∷ es) fine = absurd fine
as_many_lent marks locals taken (p ∷ ps) [] fine = absurd fine
as_many_lent marks locals taken (p ∷ ps) (e ∷ es) fine = one p.kind e fine.0 (as_many_lent marks locals taken ps es fine.1)
  where
    kinds : List NameKind
    kinds = map (λ (q : Param). q.kind) ps

    one : (k : NameKind) (e : Expr) → ArgFine k marks locals taken e → length (arrays_lent ps es) ≡ count_readers kinds
        → length ((if is_const_kind k then names_in e else []) ++ arrays_lent ps es)
        ≡ length (cond (is_const_kind k) (k ∷ filter is_const_kind kinds) (filter is_const_kind kinds))
    one Integer e h more = more
    one Array e h more = more
    one Const (Variable a) h more = ap suc more
    one Const _ h more = absurd h

-- the row after a spawn covers the row before it without the arrays that the spawn takes
pub gone_covered : (size : Room) (depth : ℕ) (names given : List Name) (taken taken' : Taken) → length names ≤ size.arrays
    → AllUsable names taken given → OwnSlots size.marks (slots_for names given) → ((y : Name) → holds false depth y taken ≡ true → holds false depth y taken' ≡ true) →
    ((y : Name) → is_among y given ≡ true → holds false depth y taken' ≡ true)
    → Covers (array_row size depth names taken') (with_gone (numbers_at size.marks (slots_for names given)) (array_row size depth names taken))
gone_covered size depth names [] taken taken' le us own more is = array_covers size depth depth names names taken' taken (row_more size.arrays depth names taken taken' more)
gone_covered size depth names (a ∷ given) taken taken' le us own more is =
    covers_array size depth names a (with_gone (numbers_at size.marks (slots_for names given)) (array_row size depth names taken)) taken' le own.0
    (gone_covered size depth names given taken taken' le us.1 own.1 more (λ y h. is y (later_among y a given h))) (is a (front_among a given)) us.0.declared

-- the row of frozen arrays after a spawn covers the row before it with the arrays in slots that the spawn reads
pub lent_covered : (size : Room) (depth : ℕ) (names reads : List Name) (taken : Taken) (cold cold' : Taken) → length names ≤ size.arrays
    → AllUsable names taken reads → ((y : Name) → holds false depth y cold ≡ true → holds false depth y cold' ≡ true) →
    ((y : Name) → is_among y reads ≡ true → holds false depth y cold' ≡ true)
    → Covers (array_row size depth names cold') (with_gone (slots_lent (map (place_of size.marks) (slots_for names reads))) (array_row size depth names cold))
lent_covered size depth names [] taken cold cold' le us more is = array_covers size depth depth names names cold' cold (row_more size.arrays depth names cold cold' more)
lent_covered size depth names (a ∷ reads) taken cold cold' le us more is =
    test (is_read size.marks s) refl (lent_covered size depth names reads taken cold cold' le us.1 more (λ y h. is y (later_among y a reads h)))
  where
    s : ℕ
    s = slot_of a names

    loans : List Loan
    loans = map (place_of size.marks) (slots_for names reads)

    test : (b : Bool) → is_read size.marks s ≡ b → Covers (array_row size depth names cold') (with_gone (slots_lent loans) (array_row size depth names cold)) →
        Covers (array_row size depth names cold') (with_gone (slots_lent (place_of size.marks s ∷ loans)) (array_row size depth names cold))
    test true r rest = subst (λ l. Covers (array_row size depth names cold') (with_gone (slots_lent (l ∷ loans)) (array_row size depth names cold))) (sym (place_read size.marks s r)) rest
    test false own rest =
        subst (λ l. Covers (array_row size depth names cold') (with_gone (slots_lent (l ∷ loans)) (array_row size depth names cold))) (sym (place_own size.marks s own))
        (covers_array size depth names a (with_gone (slots_lent loans) (array_row size depth names cold)) cold' le own rest (is a (front_among a reads)) us.0.declared)

-- a call has the operands that it takes
pub arguments_there : (kind : CallKind) (n m : ℕ) → n ≡ m → has_arguments kind n m ≡ true
arguments_there Plain n m e = at_most n m (omega (arith, e))
arguments_there Spawned n m e = equal n m e

-- the locals held after a spawn that takes some names and only reads others
abbrev pub spawned : (depth : ℕ) → (names reads : List Name) → Taken → Taken
spawned depth names reads taken = frozen_by depth reads (taken_by depth names taken)

-- names held before a spawn are held after it
pub spawn_keeps : (depth : ℕ) (names reads : List Name) (taken : Taken) (d : ℕ) (y : Name) → holds false d y taken ≡ true → holds false d y (spawned depth names reads taken) ≡ true
spawn_keeps depth names reads taken d y q = holds_behind false d y (map (λ z. (z, ReaderIn depth)) reads) (taken_by depth names taken)
    (holds_behind false d y (map (λ z. (z, SpawnIn depth)) names) taken q)

-- the names of a spawn are held after it
pub spawn_holds : (depth : ℕ) (names reads : List Name) (taken : Taken) (y : Name) → is_among y names ≡ true → holds false depth y (spawned depth names reads taken) ≡ true
spawn_holds depth names reads taken y h = holds_behind false depth y (map (λ z. (z, ReaderIn depth)) reads) (taken_by depth names taken) (held_by_spawn false depth y names taken h)

-- the arrays frozen after a spawn
frozen_is : (depth : ℕ) (names reads : List Name) (taken : Taken) → frozen_of (spawned depth names reads taken) ≡ taken_by depth reads (frozen_of taken)
frozen_is depth names reads taken = frozen_read depth reads (taken_by depth names taken) ∙ ap (taken_by depth reads) (frozen_taken depth names taken)

pub spawn_freezes : (depth : ℕ) (names reads : List Name) (taken : Taken) (d : ℕ) (y : Name) → holds false d y (frozen_of taken) ≡ true
    → holds false d y (frozen_of (spawned depth names reads taken)) ≡ true
spawn_freezes depth names reads taken d y q = ap (holds false d y) (frozen_is depth names reads taken) ∙ holds_behind false d y (map (λ z. (z, SpawnIn depth)) reads) (frozen_of taken) q

pub spawn_reads : (depth : ℕ) (names reads : List Name) (taken : Taken) (y : Name) → is_among y reads ≡ true → holds false depth y (frozen_of (spawned depth names reads taken)) ≡ true
spawn_reads depth names reads taken y h = ap (holds false depth y) (frozen_is depth names reads taken) ∙ held_by_spawn false depth y reads (frozen_of taken) h

module _ (setting : Setting) where
  -- an array that is not one of these names has another number
  none_of_them : (locals : Locals) (taken : Taken) (a : Name) → is_among a locals.arrays ≡ true → IsOwn setting.marks (slot_of a locals.arrays)
      → (bs : List Name) → AllWritable setting.marks locals.arrays taken bs → is_among a bs ≡ false →
      is_none_of (array_at setting.marks (slot_of a locals.arrays)) (numbers_at setting.marks (slots_for locals.arrays bs)) ≡ true
  none_of_them locals taken a declared own [] us h = refl
  none_of_them locals taken a declared own (b ∷ bs) us h =
      let i = slot_of a locals.arrays in
      let j = slot_of b locals.arrays in
      let other = not_same a bs b h in
      both_true (not (nat_eq (array_at setting.marks i) (array_at setting.marks j))) (is_none_of (array_at setting.marks i) (numbers_at setting.marks (slots_for locals.arrays bs)))
      (ap not (not_equal (array_at setting.marks i) (array_at setting.marks j) (at_apart setting.marks i j own us.0.own (slots_apart a b locals.arrays declared us.0.usable.declared other.0))))
      (none_of_them locals taken a declared own bs us.1 other.1)

  module _ (opened : Opened) (locals : Locals) (taken : Taken) (room : HasRoom setting locals) (cuts : CutsOpen setting.marks opened locals taken) where
    -- the array slots that a call refers to are valid
    pub slots_named_well : (given : List Name) → AllWritable setting.marks locals.arrays taken given → differ given ≡ true
        → names_arrays setting.f.arrays (numbers_at setting.marks (slots_for locals.arrays given)) ≡ true
    slots_named_well [] us apart = refl
    slots_named_well (a ∷ given) us apart =
        let i = array_at setting.marks (slot_of a locals.arrays) in
        let more = numbers_at setting.marks (slots_for locals.arrays given) in
        both_true (nat_lt i setting.f.arrays) (is_none_of i more && names_arrays setting.f.arrays more) (array_is_there setting opened locals taken room cuts a us.0.usable us.0.own)
        (both_true (is_none_of i more) (names_arrays setting.f.arrays more)
        (none_of_them locals taken a us.0.usable.declared us.0.own given us.1
        (not_true (is_among a given) (first_true (not (is_among a given)) (differ given) apart)))
        (slots_named_well given us.1 (second_true (not (is_among a given)) (differ given) apart)))

    -- arrays that may be written have full slots
    pub slots_full : (given : List Name) (n : ℕ) → AllWritable setting.marks locals.arrays taken given
        → has_arrays (made setting opened locals taken n) (numbers_at setting.marks (slots_for locals.arrays given)) ≡ true
    slots_full [] n us = refl
    slots_full (a ∷ given) n us =
        both_true (has_array (made setting opened locals taken n) (array_at setting.marks (slot_of a locals.arrays)))
        (has_arrays (made setting opened locals taken n) (numbers_at setting.marks (slots_for locals.arrays given)))
        (array_is_full (size setting) opened locals taken a n room.1 us.0.usable us.0.own cuts) (slots_full given n us.1)

    -- arrays that may be written are not frozen
    pub slots_thawed : (given : List Name) → AllWritable setting.marks locals.arrays taken given →
        none_frozen (array_row (size setting) (depth_in opened) locals.arrays (frozen_of taken)
        ∷ frozen_rows (outers (size setting) opened locals taken)) (numbers_at setting.marks (slots_for locals.arrays given)) ≡ true
    slots_thawed [] us = refl
    slots_thawed (a ∷ given) us =
        let rows = array_row (size setting) (depth_in opened) locals.arrays (frozen_of taken) ∷ frozen_rows (outers (size setting) opened locals taken) in
        both_true (full_in_all rows (array_at setting.marks (slot_of a locals.arrays)))
        (none_frozen rows (numbers_at setting.marks (slots_for locals.arrays given)))
        (array_is_thawed (size setting) opened locals taken a room.1 us.0) (slots_thawed given us.1)

    -- an array that a call only reads is not one that it takes
    loan_named : (given : List Name) → AllWritable setting.marks locals.arrays taken given → (a : Name) → IsUsable locals.arrays taken a → is_among a given ≡ false →
        names_loan setting.f (numbers_at setting.marks (slots_for locals.arrays given)) (place_of setting.marks (slot_of a locals.arrays)) ≡ true
    loan_named given us a u other = test (is_read setting.marks s) refl
      where
        s : ℕ
        s = slot_of a locals.arrays

        passed : List ℕ
        passed = numbers_at setting.marks (slots_for locals.arrays given)

        test : (b : Bool) → is_read setting.marks s ≡ b → names_loan setting.f passed (place_of setting.marks s) ≡ true
        test true r = ap (names_loan setting.f passed) (place_read setting.marks s r)
            ∙ below (array_at setting.marks s) setting.f.readers (omega (arith, read_below setting.marks s r, setting.many_read))
        test false own =
            ap (names_loan setting.f passed) (place_own setting.marks s own)
            ∙ both_true (nat_lt (array_at setting.marks s) setting.f.arrays) (is_none_of (array_at setting.marks s) passed)
            (array_is_there setting opened locals taken room cuts a u own) (none_of_them locals taken a u.declared own given us other)

    pub loans_named_well : (given : List Name) → AllWritable setting.marks locals.arrays taken given → (reads : List Name) → AllUsable locals.arrays taken reads → NotBoth given reads →
        names_loans setting.f (numbers_at setting.marks (slots_for locals.arrays given)) (map (place_of setting.marks) (slots_for locals.arrays reads)) ≡ true
    loans_named_well given us [] rs not_both = refl
    loans_named_well given us (a ∷ reads) rs not_both =
        let passed = numbers_at setting.marks (slots_for locals.arrays given) in
        let p = or_parts (is_among a given) (list_any (λ b. is_among b given) reads) not_both in
        both_true (names_loan setting.f passed (place_of setting.marks (slot_of a locals.arrays)))
        (names_loans setting.f passed (map (place_of setting.marks) (slots_for locals.arrays reads))) (loan_named given us a rs.0 p.0)
        (loans_named_well given us reads rs.1 p.1)

    -- lent arrays have full slots
    pub loans_full : (reads : List Name) (n : ℕ) → AllUsable locals.arrays taken reads
        → has_loans (made setting opened locals taken n) (map (place_of setting.marks) (slots_for locals.arrays reads)) ≡ true
    loans_full [] n rs = refl
    loans_full (a ∷ reads) n rs =
        both_true (has_loan (made setting opened locals taken n) (place_of setting.marks (slot_of a locals.arrays)))
        (has_loans (made setting opened locals taken n) (map (place_of setting.marks) (slots_for locals.arrays reads)))
        (test (is_read setting.marks (slot_of a locals.arrays)) refl) (loans_full reads n rs.1)
      where
        test : (b : Bool) → is_read setting.marks (slot_of a locals.arrays) ≡ b → has_loan (made setting opened locals taken n) (place_of setting.marks (slot_of a locals.arrays)) ≡ true
        test true r = ap (has_loan (made setting opened locals taken n)) (place_read setting.marks (slot_of a locals.arrays) r)
        test false own = ap (has_loan (made setting opened locals taken n)) (place_own setting.marks (slot_of a locals.arrays) own)
            ∙ array_is_full (size setting) opened locals taken a n room.1 rs.0 own cuts

    -- a call refers to an existing function, and to an array slot of the caller for each array that it takes
    pub passed_named : (name : Name) (passed : List ℕ) (xs : List Name) → is_function name setting.fs ≡ true
        → AllWritable setting.marks locals.arrays taken xs → differ xs ≡ true → passed ≡ numbers_at setting.marks (slots_for locals.arrays xs) →
        length xs ≡ length (taken_params (function_named name setting.fs).params) → names_passed setting.code setting.f (slot_of name setting.lists.functions) passed ≡ true
    passed_named name passed xs is us apart same many =
        let index = slot_of name setting.lists.functions in
        let callee = slice_get setting.code.funcs index in
        let entry = setting.functions.entry name is in
        let slots = slots_for locals.arrays xs in
        let there : nat_lt index (length setting.code.funcs) ≡ true = below index (length setting.code.funcs) (slice_get_within setting.code.funcs index entry.0 entry.1) in
        let given_many : length passed ≡ array_params_of callee = ap length same ∙ length-map slots (array_at setting.marks)
        ∙ length-map xs (λ a. slot_of a locals.arrays) ∙ many ∙ sym entry.2.array_params ∙ sym (ap array_params_of entry.1) in
        let well : names_arrays setting.f.arrays passed ≡ true = ap (names_arrays setting.f.arrays) same ∙ slots_named_well xs us apart in
        both_true (nat_lt index (length setting.code.funcs)) (nat_eq (length passed) (array_params_of callee) && names_arrays setting.f.arrays passed) there
        (both_true (nat_eq (length passed) (array_params_of callee)) (names_arrays setting.f.arrays passed) (equal (length passed) (array_params_of callee) given_many) well)

    -- the arrays among the names that a spawn takes are gone
    pub spawn_covers : (names given reads : List Name) → AllWritable setting.marks locals.arrays taken given → ((y : Name) → is_among y given ≡ true → is_among y names ≡ true) →
        Covers (array_row (size setting) (depth_in opened) locals.arrays (spawned (depth_in opened) names reads taken))
        (with_gone (numbers_at setting.marks (slots_for locals.arrays given)) (array_row (size setting) (depth_in opened) locals.arrays taken))
    spawn_covers names given reads us each =
        gone_covered (size setting) (depth_in opened) locals.arrays given taken (spawned (depth_in opened) names reads taken) room.1
        (all_usable setting.marks locals.arrays taken given us) (own_slots setting.marks locals.arrays taken given us)
        (spawn_keeps (depth_in opened) names reads taken (depth_in opened))
        (λ y h. spawn_holds (depth_in opened) names reads taken y (each y h))

    -- the arrays that a spawn only reads are frozen
    pub spawn_covers_frozen : (names reads : List Name) → AllUsable locals.arrays taken reads →
        Covers (array_row (size setting) (depth_in opened) locals.arrays (frozen_of (spawned (depth_in opened) names reads taken)))
        (with_gone (slots_lent (map (place_of setting.marks) (slots_for locals.arrays reads)))
        (array_row (size setting) (depth_in opened) locals.arrays (frozen_of taken)))
    spawn_covers_frozen names reads rs =
        lent_covered (size setting) (depth_in opened) locals.arrays reads taken (frozen_of taken)
        (frozen_of (spawned (depth_in opened) names reads taken)) room.1 rs (spawn_freezes (depth_in opened) names reads taken (depth_in opened))
        (λ y h. spawn_reads (depth_in opened) names reads taken y h)

    -- the arrays of a spawn are gone or frozen in the enclosing blocks too
    pub spawn_covers_outside : (names reads : List Name) → CoversEach (outers (size setting) opened locals (spawned (depth_in opened) names reads taken)) (outers (size setting) opened locals taken)
    spawn_covers_outside names reads =
        outers_more (size setting) opened locals taken (spawned (depth_in opened) names reads taken)
        (λ d y le q. spawn_keeps (depth_in opened) names reads taken d y q) (λ d y le q. spawn_freezes (depth_in opened) names reads taken d y q)

  -- the site of a call has its number, its kind and its function
  pub site_is_there : (kind : CallKind) (site function : ℕ) (c : Callee) → c.site ≡ site → c.function ≡ function
      → HasSite setting.code.sites kind site function → is_site kind c (slice_get setting.code.sites (c.site - 1)) ≡ true
  site_is_there kind site function c numbered named h =
      let s = h.site in
      ap (λ m. is_site kind c (slice_get setting.code.sites (m - 1))) numbered
      ∙ ap (is_site kind c) h.there
      ∙ both_true (nat_eq s.told.number c.site) (is_kind kind s.told.kind && nat_eq s.function c.function) (equal s.told.number c.site (h.numbered ∙ sym numbered))
      (both_true (is_kind kind s.told.kind) (nat_eq s.function c.function) (ap (is_kind kind) h.of_kind ∙ same_kind kind) (equal s.function c.function (h.calls ∙ sym named)))
    where
      same_kind : (kind : CallKind) → is_kind kind (Of kind) ≡ true
      same_kind Plain = refl
      same_kind Spawned = refl

  -- the readers of a called function
  pub readers_are : (name : Name) (is : is_function name setting.fs ≡ true)
      → readers_of (slice_get setting.code.funcs (slot_of name setting.lists.functions)) ≡ readers_in (marks_for (function_named name setting.fs).params)
  readers_are name is = let entry = setting.functions.entry name is in ap readers_of entry.1 ∙ sym entry.2.marked

  -- a function without read-only parameters is lent no array
  pub none_lent : (name : Name) (passed : List ℕ) → is_function name setting.fs ≡ true → marks_for (function_named name setting.fs).params ≡ []
      → names_lent setting.code setting.f (slot_of name setting.lists.functions) passed [] ≡ true
  none_lent name passed is unread =
      let none = readers_are name is ∙ ap readers_in unread in
      both_true (nat_eq 0 (readers_of (slice_get setting.code.funcs (slot_of name setting.lists.functions)))) true
      (equal 0 (readers_of (slice_get setting.code.funcs (slot_of name setting.lists.functions))) (sym none)) refl

  -- the instruction of a call is well formed
  pub call_fits : (opened : Opened) (locals : Locals) (taken : Taken) → HasRoom setting locals → CutsOpen setting.marks opened locals taken
      → (kind : CallKind) (site : ℕ) (target : Option Name) (name : Name) (es : List Expr) (line place : ℕ) →
      StmtFine setting.fs setting.lists (tables setting) setting.marks (size setting) Nowhere (depth_in opened) locals taken (Call kind site target name es) →
      FlowsInto (table setting) (place + 1) (made setting opened locals (held_after setting.fs (depth_in opened) (Call kind site target name es) taken) 0) →
      FitsAt setting place (Some (made setting opened locals taken (args_after 0 (function_named name setting.fs).params es)))
      (instr.Call kind (callee_of line site (option_map (λ x. slot_of x locals.ints) target) (slot_of name setting.lists.functions)))
  call_fits opened locals taken room cuts kind site target name es line place fine leads =
      let g = function_named name setting.fs in
      let c = callee_of line site (option_map (λ x. slot_of x locals.ints) target) (slot_of name setting.lists.functions) in
      let entry = setting.functions.entry name fine.0 in
      let xs = ownership.given setting.fs name es in
      let ys = ownership.lent setting.fs name es in
      let us = writable_args setting.marks locals taken g.params es fine.2 in
      let rs = usable_lent setting.marks locals taken g.params es fine.2 in
      let many = args_after 0 g.params es in
      let slots = passed_by setting.code c.passed in
      let loans = lent_by setting.code c.lent in
      let passed : slots ≡ numbers_at setting.marks (slots_for locals.arrays xs) = ap slots_named fine.4 ∙ passed_slots setting.marks locals taken g.params es fine.2 in
      let lends : loans ≡ map (place_of setting.marks) (slots_for locals.arrays ys) = ap loans_named fine.6 ∙ lent_slots setting.marks locals taken g.params es fine.2 in
      let count : many ≡ 0 + length (locals_of g.params).ints = as_many_args setting.marks locals taken 0 g.params es fine.2 in
      let params : params_of (slice_get setting.code.funcs c.function) ≡ many = ap params_of entry.1 ∙ omega (arith, count, entry.2.params) in
      let gives : gives_value (slice_get setting.code.funcs c.function) ≡ g.gives_int = ap gives_value entry.1 ∙ entry.2.gives in
      let sited : is_site kind c (slice_get setting.code.sites (c.site - 1)) ≡ true = site_is_there kind site c.function c refl refl fine.5 in
      let named_passed : names_passed setting.code setting.f c.function slots ≡ true =
      passed_named opened locals taken room cuts name slots xs fine.0 us fine.3 passed (as_many_arrays setting.marks locals taken g.params es fine.2) in
      let named_callee : names_callee setting.code setting.f kind c ≡ true =
      both_true (names_passed setting.code setting.f c.function slots)
      (nat_lt 0 c.site && (is_site kind c (slice_get setting.code.sites (c.site - 1)) && names_target setting.code setting.f c c.target)) named_passed
      (both_true (nat_lt 0 c.site) (is_site kind c (slice_get setting.code.sites (c.site - 1)) && names_target setting.code setting.f c c.target) (below 0 site fine.5.positive)
      (both_true (is_site kind c (slice_get setting.code.sites (c.site - 1))) (names_target setting.code setting.f c c.target) sited (target_named target gives fine.1))) in
      let readers = readers_of (slice_get setting.code.funcs c.function) in
      let loan_count : length loans ≡ readers =
      ap length lends ∙ length-map (slots_for locals.arrays ys) (place_of setting.marks) ∙ length-map ys (λ a. slot_of a locals.arrays)
      ∙ as_many_lent setting.marks locals taken g.params es fine.2 ∙ sym (counted_readers g.params) ∙ sym (readers_are name fine.0) in
      let named_lent : names_lent setting.code setting.f c.function slots loans ≡ true =
      both_true (nat_eq (length loans) readers) (names_loans setting.f slots loans) (equal (length loans) readers loan_count)
      (ap (λ q. names_loans setting.f q loans) passed ∙ ap (names_loans setting.f (numbers_at setting.marks (slots_for locals.arrays xs))) lends
      ∙ loans_named_well opened locals taken room cuts xs us ys rs fine.7) in
      let shape = made setting opened locals taken many in
      let finds : (has_arguments kind (params_of (slice_get setting.code.funcs c.function)) many && (has_target shape c.target && has_arrays shape slots)) ≡ true =
      both_true (has_arguments kind (params_of (slice_get setting.code.funcs c.function)) many) (has_target shape c.target && has_arrays shape slots)
      (arguments_there kind (params_of (slice_get setting.code.funcs c.function)) many params)
      (both_true (has_target shape c.target) (has_arrays shape slots) (target_ready many target fine.1) (ap (has_arrays shape) passed ∙ slots_full opened locals taken room cuts xs many us)) in
      let ready = both_true (has_arguments kind (params_of (slice_get setting.code.funcs c.function)) many
      && (has_target shape c.target && has_arrays shape slots)) (has_loans shape loans) finds
      (ap (has_loans shape) lends ∙ loans_full opened locals taken room cuts ys many rs) in
      let rows = array_row (size setting) (depth_in opened) locals.arrays (frozen_of taken) ∷ frozen_rows (outers (size setting) opened locals taken) in
      let none_left : 0 ≡ many - params_of (slice_get setting.code.funcs c.function) = omega (arith, params) in
      let after_it = held_after setting.fs (depth_in opened) (Call kind site target name es) taken in (
        both_true (names_callee setting.code setting.f kind c) (names_lent setting.code setting.f c.function slots loans) named_callee named_lent,
        ready,
        (
          takes_less (table setting) (place + 1) (leaves setting.code shape (instr.Call kind c)) (made setting opened locals after_it 0) leads none_left (
            covered kind target fine.1,
            subst (λ p. Covers (array_row (size setting) (depth_in opened) locals.arrays after_it)
                (with_passed kind p (array_row (size setting) (depth_in opened) locals.arrays taken))) (sym passed) (arrays_covered kind target us),
            subst (λ p. Covers (array_row (size setting) (depth_in opened) locals.arrays (frozen_of after_it))
                (with_lent kind p (array_row (size setting) (depth_in opened) locals.arrays (frozen_of taken)))) (sym lends) (frozen_covered kind target rs),
            outside_covered kind target,
          ),
          tt,
        ),
        ap (none_frozen rows) passed ∙ slots_thawed opened locals taken room cuts xs us,
      )
    where
      c : Option Name → Callee
      c t = callee_of line site (option_map (λ x. slot_of x locals.ints) t) (slot_of name setting.lists.functions)

      target_named : (target : Option Name) → gives_value (slice_get setting.code.funcs (slot_of name setting.lists.functions))
          ≡ (function_named name setting.fs).gives_int → TargetFine locals taken (function_named name setting.fs) target
          → names_target setting.code setting.f (c target) (c target).target ≡ true
      target_named None gives h = refl
      target_named (Some x) gives h =
          both_true (nat_lt (slot_of x locals.ints) (size setting).ints)
          (gives_value (slice_get setting.code.funcs (slot_of name setting.lists.functions)))
          (slot_is_there setting opened locals taken room cuts x h.0) (gives ∙ h.1)

      target_ready : (many : ℕ) (target : Option Name) → TargetFine locals taken (function_named name setting.fs) target → has_target (made setting opened locals taken many) (c target).target ≡ true
      target_ready many None h = refl
      target_ready many (Some x) h = slot_is_full (size setting) opened locals taken x many room.0 h.0

      names : Option Name → List Name
      names target = target_names target ++ ownership.given setting.fs name es

      reads : List Name
      reads = ownership.lent setting.fs name es

      more : (target : Option Name) (d : ℕ) (y : Name) → holds false d y taken ≡ true → holds false d y (spawned (depth_in opened) (names target) reads taken) ≡ true
      more target = spawn_keeps (depth_in opened) (names target) reads taken

      covered : (kind : CallKind) (target : Option Name) → TargetFine locals taken (function_named name setting.fs) target →
          Covers (row (size setting).ints (depth_in opened) locals.ints (held_after setting.fs (depth_in opened)
          (Call kind site target name es) taken)) (with_target kind (c target).target (row (size setting).ints (depth_in opened) locals.ints taken))
      covered Plain target h = covers_itself (row (size setting).ints (depth_in opened) locals.ints taken)
      covered Spawned None h = row_more (size setting).ints (depth_in opened) locals.ints taken
          (spawned (depth_in opened) (ownership.given setting.fs name es) reads taken) (more None (depth_in opened))
      covered Spawned (Some x) h =
          let taken' = spawned (depth_in opened) (x ∷ ownership.given setting.fs name es) reads taken in
          covers_name (size setting).ints (depth_in opened) locals.ints x (row (size setting).ints (depth_in opened) locals.ints taken) taken' room.0
          (row_more (size setting).ints (depth_in opened) locals.ints taken taken' (more (Some x) (depth_in opened)))
          (spawn_holds (depth_in opened) (x ∷ ownership.given setting.fs name es) reads taken x (front_among x (ownership.given setting.fs name es))) h.0.declared

      arrays_covered : (kind : CallKind) (target : Option Name) → AllWritable setting.marks locals.arrays taken (ownership.given setting.fs name es) →
          Covers (array_row (size setting) (depth_in opened) locals.arrays
          (held_after setting.fs (depth_in opened) (Call kind site target name es) taken))
          (with_passed kind (numbers_at setting.marks (slots_for locals.arrays (ownership.given setting.fs name es)))
          (array_row (size setting) (depth_in opened) locals.arrays taken))
      arrays_covered Plain target us = covers_itself (array_row (size setting) (depth_in opened) locals.arrays taken)
      arrays_covered Spawned target us =
          spawn_covers opened locals taken room cuts (names target) (ownership.given setting.fs name es) reads us (λ y h. among_right y (target_names target) (ownership.given setting.fs name es) h)

      frozen_covered : (kind : CallKind) (target : Option Name) → AllUsable locals.arrays taken reads →
          Covers (array_row (size setting) (depth_in opened) locals.arrays
          (frozen_of (held_after setting.fs (depth_in opened) (Call kind site target name es) taken)))
          (with_lent kind (map (place_of setting.marks) (slots_for locals.arrays reads))
          (array_row (size setting) (depth_in opened) locals.arrays (frozen_of taken)))
      frozen_covered Plain target rs = covers_itself (array_row (size setting) (depth_in opened) locals.arrays (frozen_of taken))
      frozen_covered Spawned target rs = spawn_covers_frozen opened locals taken room cuts (names target) reads rs

      outside_covered : (kind : CallKind) (target : Option Name) → CoversEach
          (outers (size setting) opened locals (held_after setting.fs (depth_in opened) (Call kind site target name es) taken))
          (outers (size setting) opened locals taken)
      outside_covered Plain target = each_covers_itself (outers (size setting) opened locals taken)
      outside_covered Spawned target = spawn_covers_outside opened locals taken room cuts (names target) reads
