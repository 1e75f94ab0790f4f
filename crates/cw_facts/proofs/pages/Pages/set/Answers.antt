use Rattle.cw_facts.specs.Items.{item_on}
use Rattle.cw_facts.proofs.Giving.{given_in_lists}
use Rattle.cw_facts.proofs.pages.Pages.set.Goals as goal

pub returns : goal.returns
returns g c = given_in_lists (item_on c.args.none) 256 c.args.self.now.shelves.items c.reach.new.self.shelves.items c.index_mut.result.now c.set_on.new.shelf c.args.number c.args.value c.in_ok-reach.ensures.same c.in_ok-reach.ensures.within c.index_mut.ensures.value c.in_ok-set_on.ensures
