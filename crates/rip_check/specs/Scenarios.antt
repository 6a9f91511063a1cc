-- A failure in a plan, with the right routes before it.
use Rattle.std.specs.Prelude.{◌<◌, length}
use Rattle.rip_check.specs.declared.aftermath.Losses.{Losses}
use Rattle.rip_check.specs.declared.untouched.Scenario.{Scenario}
use Rattle.rip_check.specs.Expected.{AreExpected}
use Rattle.rip_check.specs.Failures.{IsKnown}
use Rattle.rip_check.specs.Impacts.{AreLeft}
use Rattle.rip_check.specs.Networks.{network_at}
use Rattle.rip_plan.specs.Network.{Network}

-- the routes before are the plan's right ones, and failure and prefix are known there
pub record IsScenario (s : Scenario) : Type 0 where
  pub before : AreExpected s.plan.now s.before.now
  pub known : IsKnown s.plan.now s.failure
  pub prefix : s.prefix < length s.plan.now.prefixes

-- the routes before are the plan's right ones, and the others are what the failure leaves of them
pub record AreLosses (l : Losses) : Type 0 where
  pub before : AreExpected l.plan.now l.before.now
  pub left : AreLeft l.plan.now l.failure l.after.now

-- the network of the prefix before the failure
abbrev pub network_before : Scenario → Network
network_before s = network_at s.plan.now s.plan.now.prefixes s.prefix
