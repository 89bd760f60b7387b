-- What is wanted of a table is a job that reads one.
use Rattle.std.proofs.Common.{◌≡◌, refl}
use Rattle.std.specs.Prelude.{Some}
use Rattle.case_words.specs.Jobs.{Asked}
use Rattle.flash_run.specs.declared.wanted.Printed.{Printed}
use Rattle.flash_run.specs.declared.wanted.Printed.TheVariants.{Report, Certificate}
use Rattle.flash_run.specs.declared.wanted.Wanted.{Wanted}
use Rattle.flash_run.specs.declared.wanted.Wanted.TheVariants.{Flash, Boundary}
use Rattle.flash_run.specs.Ends.{IsFlash, base_of}
use Rattle.flash_run.specs.Wanting.{flash_for, job_for, named_by}

flash_base : (printed : Printed) (asked : Asked) → base_of (flash_for printed asked) ≡ Some asked
flash_base Report asked = refl
flash_base Certificate asked = refl

pub names_its_case : (wanted : Wanted) → base_of (job_for wanted) ≡ Some (named_by wanted)
names_its_case (Flash printed words) = flash_base printed _
names_its_case (Boundary words) = refl

pub is_flash : (printed : Printed) (asked : Asked) → IsFlash (flash_for printed asked)
is_flash Report asked = tt
is_flash Certificate asked = tt
