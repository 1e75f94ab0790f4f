-- The abstraction of the heads of functions.
use Rattle.cw_model.specs.Sites as model
use Rattle.cw_code.specs.declared.head.Head.{Head}

-- the head of a function as a list of bytes and a line
abbrev pub head_view : Head → model.Head
head_view head = record { name = head.name; line = head.line }
