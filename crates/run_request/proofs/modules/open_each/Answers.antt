use Rattle.std.proofs.Common.{refl, arith, ◌∙◌}
use Rattle.run_request.proofs.Loading.{refused, unread, placed, among, begun, begun_among, ended}
use Rattle.run_request.proofs.modules.open_each.Goals as goal

pub loop-name-init : goal.loop-name-init
loop-name-init g c = record {
  told = begun (g.S.Store.held c.args.store.now) c.args.loaded c.args.names.now;
  unread = begun_among (g.S.Store.held c.args.store.now) c.args.loaded c.args.names.now;
  stays = refl;
  faults = refl;
  guest = refl;
  real_time = refl;
  count = omega arith;
}

pub returns-in-Err-clause-told : goal.returns-in-Err-clause-told
returns-in-Err-clause-told g c =
    let own = c.as_str.ensures ∙ c.name-item.is in
    refused (g.S.Store.held c.args.store.now) (g.S.Store.held c.loop-name.store) c.loop-name.so_far c.args.loaded
    c.args.names.now c.loop-name.name-index _ _ c.in-Err.refusal
    c.loop-name-test.true own c.loop-name.invariant.stays c.loop-name.invariant.told c.in-Err.ensures.told

pub returns-in-Err-clause-unread : goal.returns-in-Err-clause-unread
returns-in-Err-clause-unread g c =
    let own = c.as_str.ensures ∙ c.name-item.is in
    unread (g.S.Store.held c.args.store.now) c.loop-name.so_far c.args.loaded c.args.names.now c.loop-name.name-index _ _ c.in-Err.refusal
    c.loop-name-test.true own c.loop-name.invariant.unread c.in-Err.ensures.unread

pub loop-name-preserved : goal.loop-name-preserved
loop-name-preserved g c =
    let own = c.as_str.ensures ∙ c.name-item.is in
    record {
      told = placed (g.S.Store.held c.args.store.now) (g.S.Store.held c.loop-name.store) c.loop-name.so_far c.in-Ok.next c.args.loaded
          c.args.names.now c.loop-name.name-index _ _
          c.loop-name-test.true own c.loop-name.invariant.stays c.loop-name.invariant.told c.in-Ok.ensures.told;
      unread = among (g.S.Store.held c.args.store.now) (g.S.Store.held c.loop-name.store) c.loop-name.so_far c.in-Ok.next c.args.loaded
          c.args.names.now c.loop-name.name-index _ _
          c.loop-name-test.true own c.loop-name.invariant.stays c.loop-name.invariant.unread c.in-Ok.ensures.told;
      stays = c.in-Ok.ensures.stays ∙ c.loop-name.invariant.stays;
      faults = c.in-Ok.ensures.cause ∙ c.loop-name.invariant.faults;
      guest = c.in-Ok.ensures.guest_size ∙ c.loop-name.invariant.guest;
      real_time = c.in-Ok.ensures.real_time_size ∙ c.loop-name.invariant.real_time;
      count = omega (arith, c.in-Ok.ensures.count, c.loop-name.invariant.count);
    }

pub returns-clause-told : goal.returns-clause-told
returns-clause-told g c =
    ended (g.S.Store.held c.args.store.now) c.loop-name.so_far c.args.loaded c.args.names.now c.loop-name.name-index (omega arith)
    c.loop-name.invariant.told
