-- The number of bits that are read one by one, the first the heaviest.
use Rattle.std.proofs.Common.{◌≡◌, ℕ, ◌+◌, ◌*◌, ◌^◌, ◌<◌, ◌≤◌, Bool, true, false, List, [], ◌∷◌, ◌++◌, length, take, get_or, refl, ap, ◌∙◌, arith, if◌then◌else◌}
use Rattle.std.proofs.Math.Pow.{pow_mono}
use Rattle.std.proofs.lemmas.Grind.{pow_more}
use Rattle.std.proofs.lemmas.List.{length_push, length-take, take_more}
use mir.Val.{bool_byte}
use Rattle.circuit.specs.Number.{number}
use Rattle.circuit.proofs.Numbers.{number-lt}

-- a bit more at the light end
number_push : (bits : List Bool) (bit : Bool) → number (bits ++ bit ∷ []) ≡ number bits * 2 + (if bit then 1 else 0)
number_push [] true = refl
number_push [] false = refl
number_push (true ∷ bits) bit =
    let power : 2 ^ length (bits ++ bit ∷ []) ≡ 2 ^ length bits * 2 = ap (λ n. 2 ^ n) (length_push bits bit) ∙ pow_more 2 (length bits) in
    omega (arith, power, number_push bits bit)
number_push (false ∷ bits) bit = omega (arith, number_push bits bit)

-- so many bits stay below their power of 2
pub number_is_small : (bits : List Bool) (width : ℕ) → length bits ≤ width → number bits < 2 ^ width
number_is_small bits width few =
    let most : 2 ^ length bits ≤ 2 ^ width = pow_mono {i = length bits} {j = width} few in
    omega (arith, most, number-lt bits)

-- a bit more of a list
pub number_more : (bits : List Bool) (i : ℕ) (d : Bool) → i < length bits → number (take (i + 1) bits) ≡ number (take i bits) * 2 + (if get_or bits i d then 1 else 0)
number_more bits i d inside = ap number (take_more bits i d inside) ∙ number_push (take i bits) (get_or bits i d)

-- a bit as a number
pub bool_byte_is : (bit : Bool) → bool_byte bit ≡ (if bit then 1 else 0)
bool_byte_is true = refl
bool_byte_is false = refl

pub bool_byte_le : (bit : Bool) → bool_byte bit ≤ 1
bool_byte_le true = omega arith
bool_byte_le false = omega arith

-- so do their first bits
pub front_is_small : (bits : List Bool) (i : ℕ) → length bits ≤ 32 → number (take i bits) < 2 ^ 32
front_is_small bits i few = number_is_small (take i bits) 32 (omega (arith, length-take i bits))
