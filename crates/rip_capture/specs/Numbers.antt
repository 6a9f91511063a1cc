-- Numbers in a file, in the byte order of the machine that wrote it.
use Rattle.std.specs.Prelude.{ℕ, List, drop}
use Rattle.byteorder.specs.Endian.{big_number, little_number}
use Rattle.rip_capture.specs.declared.numbers.Order.{Order}
use Rattle.rip_capture.specs.declared.numbers.Order.TheVariants.{Big, Little}

-- the number in the two bytes from offset k on
abbrev pub short_in : Order → ℕ → List ℕ → ℕ
short_in Big k b = big_number 2 (drop k b)
short_in Little k b = little_number 2 (drop k b)

-- the number in the four bytes from offset k on
abbrev pub number_in : Order → ℕ → List ℕ → ℕ
number_in Big k b = big_number 4 (drop k b)
number_in Little k b = little_number 4 (drop k b)

-- the number in the eight bytes from offset k on
abbrev pub long_in : Order → ℕ → List ℕ → ℕ
long_in Big k b = big_number 8 (drop k b)
long_in Little k b = little_number 8 (drop k b)
