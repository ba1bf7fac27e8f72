-- Numbers in decimal, and hexadecimal digits.
use Rattle.std.specs.Prelude.{◌≡◌, ℕ, ◌+◌, ◌-◌, ◌*◌, ◌≤◌, List, [], ◌∷◌, Option, Some, None, nat_lt, if◌then◌else◌, decimal}

-- the text writes the number n, of at most `most`, in decimal digits without leading zeros
abbrev pub IsDecimal : ℕ → ℕ → List ℕ → Type 0
IsDecimal most n text = (text ≡ decimal n) × (n ≤ most)

-- the number that digits make, behind those that make n
unfoldable pub valued : ℕ → List ℕ → ℕ
valued n [] = n
valued n (c ∷ cs) = valued (n * 10 + (c - 48)) cs

-- the value of a hexadecimal digit of either case
abbrev pub hex_value : ℕ → Option ℕ
hex_value c =
    if nat_lt c 48 then None else (
    if nat_lt c 58 then Some (c - 48) else (
    if nat_lt c 65 then None else (
    if nat_lt c 71 then Some (c - 55) else (
    if nat_lt c 97 then None else (
    if nat_lt c 103 then Some (c - 87) else None)))))
