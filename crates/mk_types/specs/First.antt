-- The first of several offences: the one of the least place, and of several at one place the one of the
-- least number. Places go by the line, then by the column.
use Rattle.std.specs.Prelude.{◌≡◌, ℕ, Bool, false, ◌&&◌, ◌||◌, List, nat_lt, nat_eq, Contains}
use Rattle.std.specs.List.{AllByRecursion}
use Rattle.mk_base.specs.declared.Place.{Place}
use Rattle.mk_ast.specs.declared.refusal.SourceRefusal.{SourceRefusal}
use Rattle.mk_ast.specs.declared.refusal.SourceRefusal.TheVariants as refusal_
use Rattle.mk_types.specs.declared.offence.Offence.{Offence}
use Rattle.mk_types.specs.declared.offence.OffenceKind.{OffenceKind}
use Rattle.mk_types.specs.declared.offence.OffenceKind.TheVariants as kind_

-- the numbers of the offences
abbrev pub number : OffenceKind → ℕ
number kind_.Unknown = 32
number kind_.Twice = 33
number kind_.Kind = 34
number kind_.AssignInput = 35
number kind_.MapForm = 36

-- whether a place is before another
abbrev pub is_place_before : Place → Place → Bool
is_place_before a b = nat_lt a.line b.line || (nat_eq a.line b.line && nat_lt a.column b.column)

-- whether two places are the same
abbrev pub is_same_place : Place → Place → Bool
is_same_place a b = nat_eq a.line b.line && nat_eq a.column b.column

-- whether an offence is before another
abbrev pub is_before : Offence → Offence → Bool
is_before x y = is_place_before x.at y.at || (is_same_place x.at y.at && nat_lt (number x.kind) (number y.kind))

-- the first of these: one of them, with none before it
pub record IsFirst (xs : List Offence) (x : Offence) : Type 0 where
  pub among : Contains xs x
  pub least : AllByRecursion (λ y. is_before y x ≡ false) xs

-- the refusal that an offence is told by
abbrev pub refusal : Offence → SourceRefusal
refusal x = by_kind x.kind x.at
  where
    by_kind : OffenceKind → Place → SourceRefusal
    by_kind kind_.Unknown at = refusal_.Unknown at
    by_kind kind_.Twice at = refusal_.Twice at
    by_kind kind_.Kind at = refusal_.Kind at
    by_kind kind_.AssignInput at = refusal_.AssignInput at
    by_kind kind_.MapForm at = refusal_.MapForm at
