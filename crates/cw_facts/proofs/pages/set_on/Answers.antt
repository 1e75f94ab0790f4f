use Rattle.cw_facts.specs.Items.{item_in}
use Rattle.cw_facts.proofs.Giving.{given_in_lists}
use Rattle.cw_facts.proofs.pages.set_on.Goals as goal

pub returns : goal.returns
returns g c = given_in_lists (item_in c.args.none) 8 c.args.shelf.now.items c.reach_page.new.shelf.items c.index_mut.result.now c.set_in.new.page c.args.number c.args.value c.in_ok-reach_page.ensures.same c.in_ok-reach_page.ensures.within c.index_mut.ensures.value c.in_ok-set_in.ensures
