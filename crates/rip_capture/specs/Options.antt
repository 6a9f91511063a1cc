-- The options of an interface (draft-ietf-opsawg-pcapng, sections 3.5 and 4.2).
use Rattle.std.specs.Prelude.{◌≡◌, ◌≢◌, ◌<◌, ◌≤◌, ◌+◌, ◌*◌, ◌/◌, ◌-◌, ◌++◌, ◌==◌, if◌then◌else◌, ℕ, Bool, true, false, List, drop, length, nat_le, replicate, slice_index, slice_range}
use Rattle.rip_capture.specs.Numbers.{long_in, short_in}
use Rattle.rip_capture.specs.declared.interface.Interface.{Interface}
use Rattle.rip_capture.specs.declared.interface.InterfaceName.{InterfaceName}
use Rattle.rip_capture.specs.declared.limits.TheConstants.{MOST_NAME}
use Rattle.rip_capture.specs.declared.numbers.Order.{Order}

-- an option: its number, the length of its value, the value, and what fills it up to a multiple
-- of 4
abbrev pub option_number : Order → List ℕ → ℕ
option_number order b = short_in order 0 b

abbrev pub option_len : Order → List ℕ → ℕ
option_len order b = short_in order 2 b

abbrev pub option_value : Order → List ℕ → List ℕ
option_value order b = slice_range b 4 (4 + option_len order b)

abbrev pub option_size : ℕ → ℕ
option_size len = 4 + (len + 3) / 4 * 4

-- the unit of times is one byte, the seconds that are added to them are eight
abbrev pub fits_option : ℕ → ℕ → Bool
fits_option number len =
    if number == 9 then len == 1 else if number == 14 then len == 8 else true

-- a name, and zeros behind it; one that is too long is none
abbrev pub name_of : List ℕ → InterfaceName
name_of value =
    if nat_le (length value) MOST_NAME
    then record { bytes = value ++ replicate (MOST_NAME - length value) 0; len = length value }
    else record { bytes = replicate MOST_NAME 0; len = 0 }

-- an interface, by one option more: its name, the unit of its times, the seconds added to them
abbrev pub with_option : Order → Interface → ℕ → List ℕ → Interface
with_option order i number value =
    if number == 2 then record {
      link_number = i.link_number;
      most = i.most;
      name = name_of value;
      resolution = i.resolution;
      offset = i.offset;
    }
    else if number == 9 then record {
      link_number = i.link_number;
      most = i.most;
      name = i.name;
      resolution = slice_index value 0;
      offset = i.offset;
    }
    else if number == 14 then record {
      link_number = i.link_number;
      most = i.most;
      name = i.name;
      resolution = i.resolution;
      offset = long_in order 0 value;
    }
    else i

-- a whole option that is not the last one, 0
pub record IsOption (order : Order) (b : List ℕ) : Type 0 where
  pub front : 4 ≤ length b
  pub some : option_number order b ≢ 0
  pub value : 4 + option_len order b ≤ length b
  pub fits : fits_option (option_number order b) (option_len order b) ≡ true

-- an interface is, by these options, that one
pub data Describes (order : Order) : List ℕ → Interface → Interface → Type 0 where
  end : (b : List ℕ) (i j : Interface) → length b < 4 → i ≡ j → Describes order b i j
  last : (b : List ℕ) (i j : Interface) → 4 ≤ length b → option_number order b ≡ 0 → i ≡ j →
      Describes order b i j
  more : (b : List ℕ) (i j : Interface) → IsOption order b →
      Describes order (drop (option_size (option_len order b)) b)
      (with_option order i (option_number order b) (option_value order b)) j →
      Describes order b i j

-- an option goes on behind these bytes, or has a length that it cannot have
pub data HasBadOption (order : Order) : List ℕ → Type 0 where
  long : (b : List ℕ) → 4 ≤ length b → option_number order b ≢ 0 →
      length b < 4 + option_len order b → HasBadOption order b
  size : (b : List ℕ) → 4 ≤ length b → option_number order b ≢ 0 →
      4 + option_len order b ≤ length b →
      fits_option (option_number order b) (option_len order b) ≡ false → HasBadOption order b
  later : (b : List ℕ) → IsOption order b →
      HasBadOption order (drop (option_size (option_len order b)) b) → HasBadOption order b
