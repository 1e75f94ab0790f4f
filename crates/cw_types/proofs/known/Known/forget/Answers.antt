use Rattle.std.proofs.Common.{◌++◌, sym, ap, ◌∙◌, subst, List, length, ◌-◌, option_to_list, Option}
use Rattle.cw_types.specs.declared.known.Entry.{Entry}
use Rattle.cw_types.specs.Shadows.{AreNewest}
use Rattle.cw_types.specs.Scope.{oldest}
use Rattle.cw_types.proofs.Newest.{newest_less, known_again, oldest_snoc}
use Rattle.cw_types.proofs.known.Known.forget.Goals as goal

pub invariant_of-self : goal.invariant_of-self
invariant_of-self c =
    let es = c.pop.new.self.items in
    let all = c.pop.ensures.items ∙ ap (λ (o : Option Entry). es ++ option_to_list o) c.in-Some.is in
    known_again c.self.inside.newest c.insert-again.new.self es c.in-Some.entry c.in-Some-shadowed.local c.insert-again.result
    (subst (λ (l : List Entry). AreNewest c.self.inside.newest l) all c.self.invariant)
    c.in-Some-shadowed.is c.insert-again.ensures.updates c.insert-again.ensures.absent

pub invariant_of-self-in-None : goal.invariant_of-self-in-None
invariant_of-self-in-None c =
    let es = c.pop.new.self.items in
    let all = c.pop.ensures.items ∙ ap (λ (o : Option Entry). es ++ option_to_list o) c.in-Some.is in
    newest_less c.self.inside.newest c.remove.new.self es c.in-Some.entry
    (subst (λ (l : List Entry). AreNewest c.self.inside.newest l) all c.self.invariant)
    (rw c.in-None.is c.remove.ensures.updates)

pub returns-in-Some-shadowed : goal.returns-in-Some-shadowed
returns-in-Some-shadowed c =
    let es = c.pop.new.self.items in
    let all = c.pop.ensures.items ∙ ap (λ (o : Option Entry). es ++ option_to_list o) c.in-Some.is in
    oldest_snoc es c.self.inside.entries.items c.in-Some.entry (length c.args.self.now - 1) all (sym (ap (λ ks. length ks - 1) c.self.view_is))
    ∙ ap (oldest (length c.args.self.now - 1)) c.self.view_is

pub returns-in-None : goal.returns-in-None
returns-in-None c =
    let es = c.pop.new.self.items in
    let all = c.pop.ensures.items ∙ ap (λ (o : Option Entry). es ++ option_to_list o) c.in-Some.is in
    oldest_snoc es c.self.inside.entries.items c.in-Some.entry (length c.args.self.now - 1) all (sym (ap (λ ks. length ks - 1) c.self.view_is))
    ∙ ap (oldest (length c.args.self.now - 1)) c.self.view_is
