-- The numbers of the codes, as they are printed.
use Rattle.std.specs.Prelude.{ℕ}
use Rattle.rip_plan.specs.declared.error.PlanCode.{PlanCode}
use Rattle.rip_plan.specs.declared.error.PlanCode.TheVariants.{Syntax, Version, Key, Name, DuplicateName, Address, Prefix, Cost, DuplicatePrefix, UnknownLink, TwiceOnLink, DuplicateAddress, OutsidePrefix, NoInterface, Limit, Memory}

abbrev pub number_of_code : PlanCode → ℕ
number_of_code Syntax = 1
number_of_code Version = 2
number_of_code Key = 3
number_of_code Name = 4
number_of_code DuplicateName = 5
number_of_code Address = 6
number_of_code Prefix = 7
number_of_code Cost = 8
number_of_code DuplicatePrefix = 9
number_of_code UnknownLink = 10
number_of_code TwiceOnLink = 11
number_of_code DuplicateAddress = 12
number_of_code OutsidePrefix = 13
number_of_code NoInterface = 14
number_of_code Limit = 15
number_of_code Memory = 16
