-- A datagram as a log of capture files has it.
use Rattle.std.specs.Prelude.{ℕ, Bool, false, List, if◌then◌else◌}
use Rattle.rip_capture.specs.Authentication.{has_authentication, without_authentication}
use Rattle.rip_capture.specs.Passwords.{has_password, without_password}
use Rattle.rip_report.specs.declared.captures.authentication.Authentication.{Authentication}
use Rattle.rip_report.specs.declared.captures.authentication.Authentication.TheVariants.{AsSent, Removed}
use Rattle.rip_report.specs.declared.captures.authentication.Omitted.{Omitted}

-- its authentication is taken off: that was asked for, and it has one that can be
abbrev pub loses_authentication : Authentication → List ℕ → Bool
loses_authentication AsSent d = false
loses_authentication Removed d = has_authentication d

-- the datagram, without its authentication where that is taken off
abbrev pub as_asked : Authentication → List ℕ → List ℕ
as_asked how d = if loses_authentication how d then without_authentication d else d

-- the datagram as a log has it: so, and with zeros for a password
abbrev pub logged_datagram : Authentication → List ℕ → List ℕ
logged_datagram how d = without_password (as_asked how d)

-- what a log leaves out of it
abbrev pub omitted_from : Authentication → List ℕ → Omitted
omitted_from how d = record {
  password = has_password (as_asked how d);
  authentication = loses_authentication how d;
}

-- nothing is left out
abbrev pub nothing_omitted : Omitted
nothing_omitted = record { password = false; authentication = false }
