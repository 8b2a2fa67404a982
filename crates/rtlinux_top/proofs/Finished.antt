-- The answers after all ticks.
use Rattle.std.proofs.Common.{◌≡◌, ◌≢◌, ℕ, Bool, true, false, refl, ap, arith}
use Rattle.rtlinux_top.specs.Status.{HasRun}
use Rattle.rtlinux_top.specs.Verdict.{refused_by, status_after}
use Rattle.rtlinux_top.specs.declared.status.Device.TheVariants.{Read}
use Rattle.rtlinux_top.specs.declared.status.Status.{Status}
use Rattle.rtlinux_top.specs.declared.status.Status.TheVariants.{Done, Refused, Outside, Breach, RtFault, Usage, NoMemory}

-- has a run ended so?
ran_in : Status → ℕ
ran_in Done = 1
ran_in (Refused code) = 0
ran_in (Outside device) = 0
ran_in Breach = 1
ran_in RtFault = 1
ran_in Usage = 0
ran_in NoMemory = 0

pub has_run : (breach fault : Bool) → HasRun (status_after breach fault)
has_run true fault = tt
has_run false true = tt
has_run false false = tt

ran : (breach fault : Bool) → ran_in (status_after breach fault) ≡ 1
unfolding ran_in
ran true fault = refl
ran false true = refl
ran false false = refl

apart : (breach fault : Bool) (s : Status) → ran_in s ≡ 0 → status_after breach fault ≢ s
apart breach fault s none e =
    let n = ap ran_in e in
    let r = ran breach fault in
    omega (arith, n, r, none)

abbrev pub IsNoRefusal : Status → Type 0
IsNoRefusal s = (s ≢ Usage) × (s ≢ Outside Read) × (s ≢ refused_by 40 0)

pub no_refusal : (breach fault : Bool) → IsNoRefusal (status_after breach fault)
unfolding ran_in
no_refusal breach fault = (apart breach fault Usage refl, apart breach fault (Outside Read) refl, apart breach fault (refused_by 40 0) refl)
