use Rattle.std.proofs.Common.{List, Option, None, replicate, ap, ◌∙◌, ◌++◌, ◌∷◌, []}
use Rattle.std.proofs.lemmas.List.{replicate_more}
use Rattle.rt_fifos.specs.Fifos.{Fifo}
use Rattle.rt_fifos.proofs.fifos.empty_rooms.Goals as goal

pub loop-n-init : goal.loop-n-init
loop-n-init c = c.in_ok-rooms.ensures.items

pub loop-n-preserved : goal.loop-n-preserved
loop-n-preserved c = c.in_ok-push.ensures.items ∙ ap (λ (xs : List (Option Fifo)). xs ++ c.in_ok-new.field-0 ∷ []) c.loop-n.invariant ∙ ap (λ (o : Option Fifo). replicate c.loop-n._n None ++ o ∷ []) c.in_ok-new.ensures ∙ replicate_more c.loop-n._n None
