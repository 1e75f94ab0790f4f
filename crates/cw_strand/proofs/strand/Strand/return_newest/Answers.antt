use Rattle.std.proofs.Common.{◌≡◌, refl, sym, ap, ◌∙◌, subst}
use Rattle.cw_jobs.specs.Jobs.{code_of}
use Rattle.cw_strand.specs.Holds.{its_code}
use Rattle.cw_strand.specs.Moves.{home_of, MayReach, Reaches}
use Rattle.cw_strand.proofs.Same.{pops}
use Rattle.cw_strand.proofs.strand.Strand.return_newest.Goals as goal

pub return_to_lender-requires : goal.return_to_lender-requires
return_to_lender-requires c = λ known.
    let self = c.args.self.now in
    let r = c.requires in
    let popped = pops self.lent.items c.pop.new.self.items self.lent.len c.pop.new.self.len c.pop.result r.newest r.older self.lent.ok.0 c.pop.ensures.items c.pop.ensures.cases r.are in
    let code : c.deref-2.result.now ≡ its_code self = c.deref-2.ensures ∙ ap (λ q. code_of q) c.deref.ensures ∙ r.code in
    subst (λ v. ∥ MayReach self.run.machine v c.home_of-home.result c.args.slices.now.items c.args.replaced.now.items ∥₁) (sym code)
    (subst (λ h. ∥ MayReach self.run.machine (its_code self) h c.args.slices.now.items c.args.replaced.now.items ∥₁) (sym (c.home_of-home.ensures ∙ ap home_of popped.result))
    (r.home (sym c.is_lost-is_lost.ensures ∙ known)))

pub returns : goal.returns
returns c =
    let self = c.args.self.now in
    record {
      of = refl;
      parts = refl;
      count = refl;
      spares = refl;
      mode = refl;
      lines = c.return_to_lender.ensures.lines;
      left = λ x xs are. (pops self.lent.items c.pop.new.self.items self.lent.len c.pop.new.self.len c.pop.result x xs self.lent.ok.0 c.pop.ensures.items c.pop.ensures.cases are).left;
      home = λ x xs are known.
          let popped = pops self.lent.items c.pop.new.self.items self.lent.len c.pop.new.self.len c.pop.result x xs self.lent.ok.0 c.pop.ensures.items c.pop.ensures.cases are in
          let code : c.deref-2.result.now ≡ its_code self = c.deref-2.ensures ∙ ap (λ q. code_of q) c.deref.ensures ∙ c.requires.code in
          subst (λ h. Reaches self.run.machine (its_code self) h c.args.slices.now.items c.args.replaced.now.items c.return_to_lender.new.machine) (c.home_of-home.ensures ∙ ap home_of popped.result)
          (subst (λ v. Reaches self.run.machine v c.home_of-home.result c.args.slices.now.items c.args.replaced.now.items c.return_to_lender.new.machine) code
          (c.return_to_lender.ensures.home (c.is_lost-is_lost.ensures ∙ known)));
    }
