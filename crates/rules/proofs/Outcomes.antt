-- What an outcome is: a check's, or else success or the host's refusal or silence.
use Rattle.std.proofs.Common.{◌≡◌, Bool, true, false, eqb, refl}
use Rattle.rules.specs.Outcome.{outcome_code}
use Rattle.rules.specs.declared.outcome.Outcome.{Outcome}
use Rattle.rules.specs.declared.outcome.Outcome.TheVariants.{Success, HostRefused, HostSilent}

-- whether it is a check's
abbrev pub is_check : Outcome → Bool
is_check Success = false
is_check HostRefused = false
is_check HostSilent = false
is_check _ = true

-- a check has not the code of success, nor that of the host's refusal or silence
apart : (o : Outcome) → is_check o ≡ true → (eqb (outcome_code o) 0 ≡ false) × (eqb (outcome_code o) 24 ≡ false) × (eqb (outcome_code o) 25 ≡ false)
apart Success is = absurd cc
apart HostRefused is = absurd cc
apart HostSilent is = absurd cc
apart _ is = (refl, refl, refl)

-- a check's code is that of no other outcome
pub check_apart : (o x : Outcome) → is_check o ≡ true → is_check x ≡ false → eqb (outcome_code o) (outcome_code x) ≡ false
check_apart o Success is other = (apart o is).0
check_apart o HostRefused is other = (apart o is).1
check_apart o HostSilent is other = (apart o is).2
check_apart o _ is other = cc
