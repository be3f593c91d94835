-- What all groups leave, and their replies.
use Rattle.std.proofs.Common.{◌≡◌, ℕ, suc, ◌+◌, ◌-◌, ◌<◌, ◌≤◌, refl, sym, ap, ◌∙◌, List, [], ◌∷◌, ◌++◌, map, arith, append_assoc, append-nil}
use Rattle.std.specs.List.{range_with_len}
use Rattle.ix_groupdef.specs.declared.types.GroupRecord.{GroupRecord}
use Rattle.ix_fits.specs.Owners.{all_groups}
use Rattle.ix_out.specs.Out.{groups_from}

-- ## Group by group
pub records-next : (f : ℕ → GroupRecord) (g : ℕ) (records more : List GroupRecord) (left : GroupRecord) → g < 512 → left ≡ f g → more ≡ records ++ left ∷ []
    → records ++ map f (groups_from g) ≡ more ++ map f (groups_from (g + 1))
unfolding groups_from
records-next f g records more left lt is put =
    let n : ℕ = 512 - (g + 1) in
    let long : 512 - g ≡ suc n = omega (arith, lt) in
    ap (λ k. records ++ map f (range_with_len g k)) long
    ∙ sym (append_assoc records (f g ∷ []) (map f (range_with_len (g + 1) n)))
    ∙ ap (λ (x : GroupRecord). (records ++ x ∷ []) ++ map f (range_with_len (g + 1) n)) (sym is)
    ∙ ap (λ (xs : List GroupRecord). xs ++ map f (range_with_len (g + 1) n)) (sym put)

groups-are : groups_from 0 ≡ all_groups
unfolding groups_from all_groups
groups-are = refl

pub records-first : (f : ℕ → GroupRecord) (records : List GroupRecord) → records ≡ [] → records ++ map f (groups_from 0) ≡ map f all_groups
records-first f records e = ap (λ (xs : List GroupRecord). xs ++ map f (groups_from 0)) e ∙ ap (map f) groups-are

pub records-end : (f : ℕ → GroupRecord) (g : ℕ) (records : List GroupRecord) → 512 ≤ g → records ++ map f (groups_from g) ≡ records
unfolding groups_from
records-end f g records le = let none : 512 - g ≡ 0 = omega (arith, le) in ap (λ k. records ++ map f (range_with_len g k)) none ∙ append-nil records

pub ruleset for_records = (records-next, records-first, records-end)
