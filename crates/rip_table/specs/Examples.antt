-- A worked example: a network of one router, and a log of two records.
use Rattle.std.specs.Prelude.{ℕ, ◌==◌, ◌&&◌, true, false, if◌then◌else◌, [], ◌∷◌, Some, None, codes}
use Rattle.rip_wire.specs.Prefix.{Block, block}
use Rattle.rip_plan.specs.Network.{Network}
use Rattle.rip_plan.specs.Passes.{same_prefix}
use Rattle.rip_log.specs.Lines.{Capture}
use Rattle.rip_log.specs.Logs.{Log}
use Rattle.rip_table.specs.State.{State}

-- 10.1.0.1
abbrev pub sender : ℕ
sender = 167837697

-- 10.3.0.0/16
abbrev pub prefix : Block
prefix = block 167968768 16

-- router r1 is on link a, and no prefix is planned
abbrev pub one_router : Network
one_router = record {
  links = codes "a" ∷ [];
  lists = false ∷ [];
  listed = [];
  routers = codes "r1" ∷ [];
  interfaces =
      (record { router = 0; link = 0; address = sender; cost = 1; direct = 1; poison = true }) ∷ [];
  also = [] ∷ [];
  prefixes = [];
  places = [];
}

-- a response of the interface, with one entry of 10.3.0.0/16
abbrev pub update : ℕ → Capture
update metric = record {
  link = codes "a";
  sender = sender;
  datagram =
      2 ∷ 2 ∷ 0 ∷ 0 ∷ 0 ∷ 2 ∷ 0 ∷ 0 ∷ 10 ∷ 3 ∷ 0 ∷ 0 ∷ 255 ∷ 255 ∷ 0 ∷ 0
      ∷ 0 ∷ 0 ∷ 0 ∷ 0 ∷ 0 ∷ 0 ∷ 0 ∷ metric ∷ [];
}

-- metric 1 on line 1, and metric 2 on line 2
abbrev pub two_metrics : Log
two_metrics = record {
  records = (record { line = 1; capture = update 1 })
      ∷ (record { line = 2; capture = update 2 }) ∷ [];
  fault = None;
}

-- the interface was heard, and showed 1
abbrev pub one_metric : State
one_metric = record {
  interfaces = 1;
  prefixes = prefix ∷ [];
  shows = λ i p. if (i == 0) && same_prefix p prefix then Some 1 else None;
  heard = λ i. if i == 0 then true else false;
}
