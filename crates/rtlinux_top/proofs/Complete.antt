-- An answer without a fault and without want of memory is one that the words and the files determine.
use Rattle.std.proofs.Common.{◌≢◌, ℕ, List, Option, refl}
use Rattle.outside_io.specs.Causes.{Rose}
use Rattle.outside_io.specs.Store.{Files}
use Rattle.rtlinux_top.specs.declared.last.Last.{Last}
use Rattle.rtlinux_top.specs.declared.status.Device.TheVariants.{Read, Write}
use Rattle.rtlinux_top.specs.declared.status.Status.{Status}
use Rattle.rtlinux_top.specs.declared.status.Status.TheVariants.{Done, Refused, Outside, Breach, RtFault, Usage, NoMemory}
use Rattle.rtlinux_top.specs.Answers.{AnswersTo}
use Rattle.rtlinux_top.specs.Course.{IsCourse}
use Rattle.rtlinux_top.specs.Words.{Asked}

pub complete : (asked : Asked) (held : Option Files) (before now : ℕ) (unread : List ℕ) (old new : Option (List ℕ)) (first second : ℕ) (last : Last) (status : Status)
    → IsCourse asked held before now unread old new first second last status → ¬ Rose before now → ¬ Rose first second → status ≢ NoMemory → AnswersTo asked held status old new
complete asked held before now unread old new first second last Done course fetched put memory = course.told tt
complete asked held before now unread old new first second last (Refused code) course fetched put memory = course.told tt
complete asked held before now unread old new first second last (Outside Read) course fetched put memory = absurd (fetched (course.read refl).0)
complete asked held before now unread old new first second last (Outside Write) course fetched put memory = absurd (put (course.write refl))
complete asked held before now unread old new first second last Breach course fetched put memory = course.told tt
complete asked held before now unread old new first second last RtFault course fetched put memory = course.told tt
complete asked held before now unread old new first second last Usage course fetched put memory = course.told tt
complete asked held before now unread old new first second last NoMemory course fetched put memory = absurd (memory refl)
