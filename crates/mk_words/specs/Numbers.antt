-- A part of a word of probes: for the contracts inside the crate, none of the public ones cites it.
use Rattle.std.specs.Prelude.{◌≡◌, ◌<◌, ◌^◌, ℕ, List, decimal}

-- the word is a decimal number below 2^32
abbrev pub IsNumber : List ℕ → Type 0
IsNumber word = (number : ℕ) × (word ≡ decimal number) × (number < 2 ^ 32)
