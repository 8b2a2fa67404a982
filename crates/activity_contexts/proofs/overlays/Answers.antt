use Rattle.std.proofs.Common.{ap}
use Rattle.activity_contexts.proofs.Changes.{given_last, given_none, given_own}
use Rattle.activity_contexts.proofs.overlays.Goals as goal

pub returns-clause-none : goal.returns-clause-none
returns-clause-none c = λ p i r dead. ap (λ ts. record p { threads = ts }) (given_none p.threads i r dead)

pub returns-clause-last : goal.returns-clause-last
returns-clause-last c = λ p i r s. ap (λ ts. record p { threads = ts }) (given_last p.threads i r s)

pub returns-clause-own : goal.returns-clause-own
returns-clause-own c = λ p i r live. given_own p.threads i r live
