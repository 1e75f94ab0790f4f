-- Uses that are recorded in sequence.
use Rattle.cw_tree.specs.lemmas.NamedSlots.{uses_append}

pub ruleset uses = (uses_append)
