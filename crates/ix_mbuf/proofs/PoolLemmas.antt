use Rattle.std.proofs.Common.{◌&&◌, nat_lt, ◌≡◌, ◌≤◌, ◌<◌, ℕ, ◌+◌, ◌-◌, ◌≢◌, ◌==◌, Bool, true, false, zero, suc, List, [], ◌∷◌, ◌++◌, length, take, drop, slice_index_or, slice_set, if◌then◌else◌, ap, sym, ◌∙◌, refl, arith, length-append, length-take}
use Rattle.std.proofs.lemmas.List.{drop-take, drop-drop, get_or_past, get_or-set_same, get_or-set_other}
use Rattle.std.proofs.lemmas.List.Sums.{sum_by-set, sum_by_push, get_or-le-sum_by}
use Rattle.std.proofs.lemmas.Bool.Decides.{nat_tests}
use Rattle.std.proofs.lemmas.Grind.{common_steps}
use Rattle.ix_base.specs.declared.id.BufId.{BufId}
use Rattle.ix_base.specs.declared.id.CoreId.{CoreId}
use Rattle.ix_mbuf.specs.Owners.{times, weigh, at_home, one_at, one_if}
use Rattle.ix_mbuf.proofs.OwnerLemmas.{times-push, one_if-same, homes-le-length}
use Rattle.ix_mbuf.specs.declared.name.Name.{Name}
use Rattle.ix_mbuf.specs.Pools.{FreeAndOut, is_in, unused, all_names, is_out_of}

pub skipped : (xs : List ℕ) (from to n : ℕ) → n ≤ length (take (to - from) (drop from xs))
    → take (to - (from + n)) (drop (from + n) xs) ≡ drop n (take (to - from) (drop from xs))
skipped xs from to n le =
    let fits : n ≤ to - from = omega (arith, length-take (to - from) (drop from xs)) in
    let whole : to - from ≡ n + (to - (from + n)) = omega arith in
    ap (take (to - (from + n))) (sym (drop-drop n from xs))
    ∙ sym (drop-take n (to - (from + n)) (drop from xs))
    ∙ ap (λ k. drop n (take k (drop from xs))) (sym whole)

-- what stands last among the free ones has its flag down
is_in-cases : (b : Bool) (k : ℕ) → k + 1 ≡ (if b then 1 else 0) → b ≡ true
is_in-cases true k e = refl
is_in-cases false k e = absurd (omega arith)

pub is_in-last : (home : CoreId) (out : List Bool) (free : List Name) (capacity : ℕ) (rest : List Name) (name : Name)
    → FreeAndOut home out free capacity → free ≡ rest ++ name ∷ [] → is_in home out name.id ≡ true
is_in-last home out free capacity rest name kept is =
    is_in-cases (is_in home out name.id) (times name.id rest) (omega (arith, kept.each name.id, ap (times name.id) is, times-push name.id rest name, one_if-same name))

pub slot-lt : (home : CoreId) (out : List Bool) (id : BufId) → is_in home out id ≡ true → id.slot < length out
slot-lt home out id e = grind (arith, nat_tests, get_or_past out id.slot true)

home-of : (home : CoreId) (out : List Bool) (name : Name) → is_in home out name.id ≡ true → one_at home.0 name ≡ 1
home-of home out name e = grind (arith, nat_tests)

home-same : (home : CoreId) (name : Name) → name.id.home.0 ≡ home.0 → one_at home.0 name ≡ 1
home-same home name e = grind (arith, nat_tests)

-- a flag that is put up or down changes what is in at that slot alone
up : (home : CoreId) (out : List Bool) (name : Name) (x : BufId) → is_in home out name.id ≡ true → name.id.slot < length out
    → (if is_in home (slice_set out name.id.slot true) x then 1 else 0) + one_if x name ≡ (if is_in home out x then 1 else 0)
up home out name x e lt = grind (arith, nat_tests, get_or-set_same out name.id.slot true true, get_or-set_other out name.id.slot x.slot true true)

down : (home : CoreId) (out : List Bool) (name : Name) (x : BufId) → name.id.home.0 ≡ home.0 → slice_index_or out name.id.slot false ≡ true
    → name.id.slot < length out → (if is_in home (slice_set out name.id.slot false) x then 1 else 0) ≡ (if is_in home out x then 1 else 0) + one_if x name
down home out name x at set lt =
    grind (arith, common_steps, nat_tests, get_or-set_same out name.id.slot false true, get_or-set_other out name.id.slot x.slot false true)

pub taken : (home : CoreId) (out : List Bool) (free : List Name) (capacity : ℕ) (rest : List Name) (name : Name)
    → FreeAndOut home out free capacity → free ≡ rest ++ name ∷ [] → FreeAndOut home (slice_set out name.id.slot true) rest capacity
taken home out free capacity rest name kept is =
    let e = is_in-last home out free capacity rest name kept is in
    let lt = slot-lt home out name.id e in
    let low : slice_index_or out name.id.slot false ≡ false = grind (arith, common_steps, nat_tests) in
    record {
      each = λ x. omega (arith, kept.each x, ap (times x) is, times-push x rest name, up home out name x e lt);
      homes = omega (arith, kept.homes, ap (weigh (one_at home.0)) is, ap length is, sum_by_push (one_at home.0) rest name, length-append rest (name ∷ []), home-of home out name e);
      count = grind (arith, common_steps, sum_by-set (λ (b : Bool). if b then 1 else 0) out name.id.slot true false lt, length-append rest (name ∷ []), kept.count);
      room = grind (arith, common_steps, kept.room);
      small = kept.small;
    }

pub given : (home : CoreId) (out : List Bool) (free : List Name) (capacity : ℕ) (name : Name)
    → FreeAndOut home out free capacity → name.id.home.0 ≡ home.0 → slice_index_or out name.id.slot false ≡ true → name.id.slot < length out
    → FreeAndOut home (slice_set out name.id.slot false) (free ++ name ∷ []) capacity
given home out free capacity name kept at set lt =
    record {
      each = λ x. omega (arith, kept.each x, times-push x free name, down home out name x at set lt);
      homes = omega (arith, kept.homes, sum_by_push (one_at home.0) free name, length-append free (name ∷ []), home-same home name at);
      count = grind (arith, common_steps, sum_by-set (λ (b : Bool). if b then 1 else 0) out name.id.slot false false lt, length-append free (name ∷ []), kept.count);
      room = grind (arith, common_steps, kept.room);
      small = kept.small;
    }

pub room-for_given : (home : CoreId) (out : List Bool) (free : List Name) (capacity : ℕ) (slot : ℕ)
    → FreeAndOut home out free capacity → slice_index_or out slot false ≡ true → slot < length out → length free < capacity
room-for_given home out free capacity slot kept set below =
    let one : 1 ≤ (if slice_index_or out slot false then 1 else 0) = rw set (omega arith) in
    omega (arith, get_or-le-sum_by (λ (b : Bool). if b then 1 else 0) out slot false below, kept.count, kept.room)

get_or-in : (out : List Bool) (i : ℕ) (d e : Bool) → i < length out → slice_index_or out i d ≡ slice_index_or out i e
get_or-in [] i d e lt = absurd (omega arith)
get_or-in (x ∷ xs) zero d e lt = refl
get_or-in (x ∷ xs) (suc i) d e lt = get_or-in xs i d e (omega arith)

-- what the test `is_out` says of the flags
pub record IsOut (home : CoreId) (out : List Bool) (id : BufId) : Type 0 where
  pub at : id.home.0 ≡ home.0
  pub set : slice_index_or out id.slot false ≡ true
  pub below : id.slot < length out

pub is_out : (home : CoreId) (out : List Bool) (free : List Name) (capacity : ℕ) (id : BufId)
    → FreeAndOut home out free capacity → is_out_of (record { home = home; n = length out; free = free }) id ≡ true → IsOut home out id
is_out home out free capacity id kept e =
    let at : id.home.0 ≡ home.0 = grind (arith, nat_tests) in
    let below : id.slot < length out = grind (arith, nat_tests) in
    let none : times id free ≡ 0 = grind (arith, nat_tests) in
    let each = kept.each id in
    let flag : slice_index_or out id.slot false ≡ true = grind (arith, common_steps, nat_tests, get_or-in out id.slot true false below) in
    record {
      at = at;
      below = below;
      set = flag;
    }

fresh : (home : CoreId) (out : List Bool) (x : BufId)
    → (if is_in home (out ++ false ∷ []) x then 1 else 0) ≡ (if is_in home out x then 1 else 0) + one_if x (unused home (length out))
fresh home out x = grind (arith, common_steps, nat_tests, get_or_past out x.slot true)

-- one more buffer, free
pub made : (home : CoreId) (out : List Bool) (free : List Name) (capacity : ℕ)
    → FreeAndOut home out free capacity → length out < capacity
    → FreeAndOut home (out ++ false ∷ []) (free ++ unused home (length out) ∷ []) capacity
made home out free capacity kept lt =
    let name : Name = unused home (length out) in
    record {
      each = λ x. omega (arith, kept.each x, times-push x free name, fresh home out x);
      homes = omega (arith, kept.homes, sum_by_push (one_at home.0) free name, length-append free (name ∷ []), home-same home name refl);
      count = grind (arith, common_steps, length-append free (name ∷ []), kept.count);
      room = grind (arith, common_steps);
      small = kept.small;
    }

pub other_home : (a b : ℕ) (xs : List Name) → weigh (one_at a) xs ≡ length xs → a ≢ b → weigh (one_at b) xs ≡ 0
other_home a b xs all apart = omega (arith, homes-le-length a b xs apart)

pub at_home-all_names : (h : ℕ) (home : CoreId) (n : ℕ) → at_home h (all_names home n) ≡ (if home.0 == h then n else 0)
at_home-all_names h home zero = grind (arith, nat_tests)
at_home-all_names h home (suc n) =
    let rest = at_home-all_names h home n in
    let push = sum_by_push (one_at h) (all_names home n) (unused home n) in
    grind (arith, nat_tests)

one_more : (x : BufId) (home : CoreId) (n : ℕ) → (if x.home.0 == home.0 && nat_lt x.slot n then 1 else 0) + one_if x (unused home n) ≡ (if x.home.0 == home.0 && nat_lt x.slot (suc n) then 1 else 0)
one_more x home n = grind (arith, nat_tests)

pub times-all_names : (x : BufId) (home : CoreId) (n : ℕ) → times x (all_names home n) ≡ (if x.home.0 == home.0 && nat_lt x.slot n then 1 else 0)
times-all_names x home zero = grind (arith, nat_tests)
times-all_names x home (suc n) =
    omega (arith, times-all_names x home n, times-push x (all_names home n) (unused home n), one_more x home n)

-- a buffer that stands elsewhere, where all are as many as were made, is out
pub out_from_whole : (home : CoreId) (n : ℕ) (free : List Name) (x : BufId) → times x free + 1 ≤ times x (all_names home n)
    → is_out_of (record { home = home; n = n; free = free }) x ≡ true
out_from_whole home n free x le = let all = times-all_names x home n in grind (arith, nat_tests)

-- free and given-out buffers together are all buffers
pub together_of : (home : CoreId) (out : List Bool) (free : List Name) (capacity : ℕ) (x : BufId) → FreeAndOut home out free capacity
    → times x free + (if is_out_of (record { home = home; n = length out; free = free }) x then 1 else 0) ≡ times x (all_names home (length out))
together_of home out free capacity x kept =
    let all = times-all_names x home (length out) in
    let each = kept.each x in
    let past = get_or_past out x.slot true in
    grind (arith, common_steps, nat_tests)
