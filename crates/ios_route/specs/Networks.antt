-- Networks of addresses.
use Rattle.std.specs.Prelude.{ℕ, ◌-◌, ◌*◌, ◌/◌, ◌^◌, ◌==◌, Bool}

-- the first bits of an address, so many of 32, as a number
abbrev pub first_bits : ℕ → ℕ → ℕ
first_bits len address = address / 2 ^ (32 - len)

-- the first address of the network that an address lies in
abbrev pub network : ℕ → ℕ → ℕ
network len address = first_bits len address * 2 ^ (32 - len)

-- the two addresses agree in their first bits
abbrev pub in_one_network : ℕ → ℕ → ℕ → Bool
in_one_network len address other = first_bits len address == first_bits len other
