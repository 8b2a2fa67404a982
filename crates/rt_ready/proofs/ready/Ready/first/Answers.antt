use Rattle.std.proofs.Common.{ℕ, Option, Some, None, ap, ◌≡◌, ◌<◌, ◌^◌, ◌∙◌, option_map, IfSome}
use Rattle.ready_queues.specs.Members.{Members, IsFirst}
use Rattle.rt_ready.specs.Order.{ReadyList, first_place, id_of}
use Rattle.rt_ready.specs.Numbered.{AreNumbered, in_order}
use Rattle.rt_ready.proofs.Firsts.{first_none, first_some}
use Rattle.rt_ready.proofs.ready.Ready.first.Goals as goal

either : (q : Members) (n : ℕ) (r : Option ℕ) → n < 2 ^ 64 → AreNumbered q n → IsFirst q r → r ≡ option_map id_of (first_place q.version (in_order q.members n))
either q n None h s f = first_none q.version n q.members s.members s.small f
either q n (Some i) h s f = first_some q.version n q.members i s.members s.apart s.below s.small h f

pub returns-clause-first : goal.returns-clause-first
returns-clause-first c = either c.self.inside.queues c.self.inside.next c.first.result c.self.invariant.fits c.self.invariant.numbered c.first.ensures ∙ ap (λ (r : ReadyList). option_map id_of (first_place r.version r.places)) c.self.view_is

below : (q : Members) (r : Option ℕ) → IsFirst q r → IfSome r (λ id. id < 64)
below q None f = tt
below q (Some i) f = f.0

pub returns-clause-below : goal.returns-clause-below
returns-clause-below c = below c.self.inside.queues c.first.result c.first.ensures
