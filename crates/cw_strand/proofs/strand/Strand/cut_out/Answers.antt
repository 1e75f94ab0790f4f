use Rattle.std.proofs.Common.{◌≡◌, ℕ, ◌+◌, sym, ap, ap₂, ◌∙◌, subst, arith}
use Rattle.cw_jobs.specs.declared.call.Parts.{Parts}
use Rattle.cw_jobs.specs.Jobs.{code_of}
use Rattle.cw_machine.specs.declared.run.Run.{Run}
use Rattle.cw_machine.specs.RepresentsState.{StaysBut}
use Rattle.cw_machine.specs.Hands.{MayHand, HandsOut}
use Rattle.cw_machine.specs.Calls.{listed, loans_of}
use Rattle.cw_strand.specs.Holds.{its_code}
use Rattle.cw_strand.proofs.Cutting.{may_hand_out}
use Rattle.cw_strand.proofs.strand.Strand.cut_out.Goals as goal

pub hand_out-requires : goal.hand_out-requires
hand_out-requires c =
    let self = c.args.self.now in
    let stays = c.shell.ensures.stays in
    let passed = c.args.spawn.now.passed in
    let lent = c.args.spawn.now.lent in
    let kept = ap (λ b. code_of b.value) stays.parts ∙ c.requires.comes.keeps.code in
    let code : c.deref-2.result.now ≡ its_code self = c.deref-2.ensures ∙ ap (λ q. code_of q) c.deref.ensures ∙ kept in
    let code' : c.deref-4.result.now ≡ its_code self = c.deref-4.ensures ∙ ap (λ q. code_of q) c.deref-3.ensures ∙ kept in
    let code'' : c.deref-6.result.now ≡ its_code self = c.deref-6.ensures ∙ ap (λ q. code_of q) c.deref-5.ensures ∙ kept in
    let slots : c.slots_named-slots.result.now ≡ listed (its_code self) passed = c.slots_named-slots.ensures ∙ ap (λ v. listed v passed) code in
    let loans : c.loans_named-loans.result.now ≡ loans_of (its_code self) lent = c.loans_named-loans.ensures ∙ ap (λ v. loans_of v lent) code' in
    subst (λ v. ∥ MayHand v c.shell.new.self.run.machine c.slots_named-slots.result.now c.loans_named-loans.result.now ∥₁) (sym code'')
    (subst (λ l. ∥ MayHand (its_code self) c.shell.new.self.run.machine l c.loans_named-loans.result.now ∥₁) (sym slots)
    (subst (λ l. ∥ MayHand (its_code self) c.shell.new.self.run.machine (listed (its_code self) passed) l ∥₁) (sym loans)
    (subst (λ (r : Run). ∥ MayHand (its_code self) r.machine (listed (its_code self) passed) (loans_of (its_code self) lent) ∥₁) (sym stays.run)
    (may_hand_out c.calls_preserve_strand_job.ensures self c.args.end c.args.spawn.now c.requires.comes))))

pub address-requires : goal.address-requires
address-requires c =
    let keeps = c.requires.comes.keeps in
    let stays = c.shell.ensures.stays in
    let same : c.deref-7.result.now ≡ c.args.self.now.parts.value = c.deref-7.ensures ∙ ap (λ b. b.value) stays.parts in
    let before = ap (λ (q : Parts). q.before) same ∙ keeps.before in
    let limit = ap (λ (q : Parts). q.limit) same ∙ keeps.limit in
    let count = stays.count in
    let within = keeps.within in
    omega (arith, before, limit, count, within)

pub returns-clause-cut : goal.returns-clause-cut
returns-clause-cut c =
    let self = c.args.self.now in
    let passed = c.args.spawn.now.passed in
    let keeps = c.requires.comes.keeps in
    let stays = c.shell.ensures.stays in
    let lent = c.args.spawn.now.lent in
    let kept = ap (λ b. code_of b.value) stays.parts ∙ keeps.code in
    let code : c.deref-2.result.now ≡ its_code self = c.deref-2.ensures ∙ ap (λ q. code_of q) c.deref.ensures ∙ kept in
    let code' : c.deref-4.result.now ≡ its_code self = c.deref-4.ensures ∙ ap (λ q. code_of q) c.deref-3.ensures ∙ kept in
    let code'' : c.deref-6.result.now ≡ its_code self = c.deref-6.ensures ∙ ap (λ q. code_of q) c.deref-5.ensures ∙ kept in
    let slots : c.slots_named-slots.result.now ≡ listed (its_code self) passed = c.slots_named-slots.ensures ∙ ap (λ v. listed v passed) code in
    let loans : c.loans_named-loans.result.now ≡ loans_of (its_code self) lent = c.loans_named-loans.ensures ∙ ap (λ v. loans_of v lent) code' in
    let same : c.deref-7.result.now ≡ self.parts.value = c.deref-7.ensures ∙ ap (λ b. b.value) stays.parts in
    let told = c.address.ensures in
    let rest : c.address.new.parts.rest ≡ c.hand_out.new.rest = ap (λ (q : Parts). q.rest) told ∙ ap (λ (q : Parts). q.rest) c.deref_mut-2.ensures.value in
    record {
      of = stays.of;
      parts = stays.parts;
      meter = ap (λ (r : Run). r.meter) stays.run;
      count = stays.count;
      lent = c.reserve.ensures.items ∙ stays.lent;
      mode = stays.mode;
      spares = stays.spares;
      out = subst (λ r. HandsOut (its_code self) self.run.machine (listed (its_code self) passed) (loans_of (its_code self) lent) c.in_ok-lender.lender.first c.in_ok-lender.lender.slots c.hand_out.new.self r) (sym rest)
          (subst (λ l. HandsOut (its_code self) self.run.machine (listed (its_code self) passed) l c.in_ok-lender.lender.first c.in_ok-lender.lender.slots c.hand_out.new.self c.hand_out.new.rest) loans
          (subst (λ l. HandsOut (its_code self) self.run.machine l c.loans_named-loans.result.now c.in_ok-lender.lender.first c.in_ok-lender.lender.slots c.hand_out.new.self c.hand_out.new.rest) slots
          (subst (λ v. HandsOut v self.run.machine c.slots_named-slots.result.now c.loans_named-loans.result.now c.in_ok-lender.lender.first c.in_ok-lender.lender.slots c.hand_out.new.self c.hand_out.new.rest) code''
          (subst (λ (r : Run). HandsOut c.deref-6.result.now r.machine c.slots_named-slots.result.now c.loans_named-loans.result.now c.in_ok-lender.lender.first c.in_ok-lender.lender.slots c.hand_out.new.self c.hand_out.new.rest) stays.run c.in_ok-lender.ensures.out))));
      stays = subst (λ (r : Run). StaysBut r.machine c.hand_out.new.self) stays.run c.in_ok-lender.ensures.rest;
      code = ap (λ q. code_of q) told ∙ ap (λ q. code_of q) c.deref_mut-2.ensures.value ∙ ap (λ q. code_of q) c.deref_mut.ensures.value ∙ c.in_ok-parts.ensures.code;
      joins = ap (λ (q : Parts). q.extent) told;
      site = ap (λ (q : Parts). q.site) told;
      detail = ap (λ (q : Parts). q.detail) told ∙ ap (λ (q : Parts). q.detail) same ∙ keeps.detail;
      limit = ap (λ (q : Parts). q.limit) told ∙ ap (λ (q : Parts). q.limit) same ∙ keeps.limit;
      before = ap (λ (q : Parts). q.before) told ∙ ap₂ (λ (x y : ℕ). x + y) (ap (λ (q : Parts). q.before) same ∙ keeps.before) stays.count;
    }
