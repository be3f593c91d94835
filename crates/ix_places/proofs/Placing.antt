-- Replies in order stay so where their connections go to the places that numbers tell.
use Rattle.std.proofs.Common.{◌≡◌, ℕ, ◌+◌, ◌<◌, ◌≤◌, ◌⊎◌, inl, inr, refl, sym, ap, ◌∙◌, true, false, true≢false, List, get_or, length, map, arith}
use Rattle.std.specs.Prelude.{Contains, Option, None, unwrap_or}
use Rattle.std.specs.List.{AllByRecursion, IsDistinct}
use Rattle.std.specs.List.Sorted.{IsPermutation, IsSortedByKey}
use Rattle.std.specs.Ordering.{is_lt, nat_cmp, ordering_reverse, ordering_then}
use Rattle.std.specs.declared.cmp.Ordering.{Ordering}
use Rattle.std.specs.declared.cmp.Ordering.TheVariants.{Less, Equal, Greater}
use Rattle.std.proofs.lemmas.Bool.{cases_lt}
use Rattle.std.proofs.lemmas.List.{get_or-map, get_or_default, length-map}
use Rattle.std.proofs.lemmas.List.Elements.{All-contains, All-from_recursion}
use Rattle.std.proofs.lemmas.List.Sorted.{Contains-permutation, IsPermutation-sym}
use Rattle.std.proofs.lemmas.Map.Keys.{apart_from_distinct}
use Rattle.ix_base.specs.declared.id.WireNo.{WireNo}
use Rattle.ix_playdef.specs.Order.{is_before, key_cmp, key_of, number_of, numbers_among, same_key}
use Rattle.ix_playdef.specs.Replies.{IsOrder, Places}
use Rattle.ix_playdef.specs.declared.order.Phase.{Phase}
use Rattle.ix_playdef.specs.declared.order.Phase.TheVariants.{Connect, Taken, Timer, Flush}
use Rattle.ix_playdef.specs.declared.order.Reply.{Reply}
use Rattle.ix_playdef.specs.declared.order.ReplyKey.{ReplyKey}
use Rattle.ix_places.specs.Told.{key_with, place_in, places_by, reply_with, told_number, turn_of}
use Rattle.ix_places.specs.declared.turn.Turn.{Turn}
use Rattle.ix_places.proofs.Keys.{none-before}
use Rattle.ix_places.proofs.Numbered.{before-next, number-at, turned-cmp}
use Rattle.ix_places.proofs.ToldLaws.{IsTold, told-any, told-given}
use Rattle.ix_places.proofs.Turns.{SameBlock, block-same, block_cmp, first-less, key-split, less-nat, nat-equal, nat-less, nat-tied, rest_cmp, same-block, then-behind, then-less}

-- the place of a reply's connection
abbrev pub place_of : Places → ReplyKey → ℕ
place_of places k = places k.entry k.group.0 k.phase k.opening

abbrev pub HasPlace : Places → Reply → Type 0
HasPlace places x = x.key.place ≡ place_of places x.key

abbrev place_at : Places → Turn → ℕ
place_at places t = places t.entry t.group.0 t.phase t.opening

abbrev in_turn : Option WireNo → ℕ → Phase → ℕ → Turn
in_turn entry group phase opening = record { entry = entry; group = record { 0 = group }; phase = phase; opening = opening }

lt-less : (o : Ordering) → is_lt o ≡ true → o ≡ Less
lt-less Less e = refl
lt-less Equal e = absurd (true≢false (sym e))
lt-less Greater e = absurd (true≢false (sym e))

-- ## Numbers among sorted replies
module _ (sorted : List Reply) (up : IsSortedByKey key_of key_cmp sorted) (apart : IsDistinct same_key sorted) where
  pub number-is : (x : Reply) (c : Contains sorted x) → number_of sorted x.key ≡ c.0
  number-is x c = ap (λ (y : Reply). number_of sorted y.key) (sym c.2) ∙ number-at sorted up apart c.0 x c.1

  pub number-below : (x : Reply) → Contains sorted x → number_of sorted x.key < length sorted
  number-below x c = omega (arith, number-is x c, c.1)

  at-same : (x y : Reply) (c : Contains sorted y) → get_or sorted c.0 x ≡ y
  at-same x y c = get_or_default sorted c.0 x y c.1 ∙ c.2

  pub number-rises : (x y : Reply) → Contains sorted x → Contains sorted y → is_before x.key y.key ≡ true → number_of sorted x.key < number_of sorted y.key
  number-rises x y c e before = by_order (cases_lt c.0 e.0)
    where
      by_order : (c.0 < e.0) ⊎ (e.0 ≤ c.0) → number_of sorted x.key < number_of sorted y.key
      by_order (inl lt) = omega (arith, number-is x c, number-is y e, lt)
      by_order (inr ge) =
          let behind : is_before (get_or sorted c.0 x).key (get_or sorted e.0 x).key ≡ false = none-before sorted up e.0 c.0 x ge c.1 in
          absurd (true≢false (sym before ∙ ap (λ (z : Reply). is_before z.key y.key) (sym c.2) ∙ ap (λ (z : Reply). is_before (get_or sorted c.0 x).key z.key) (sym (at-same x y e)) ∙ behind))

  pub number-names : (x y : Reply) → Contains sorted x → Contains sorted y → number_of sorted x.key ≡ number_of sorted y.key → x ≡ y
  number-names x y c e same =
      let at : c.0 ≡ e.0 = sym (number-is x c) ∙ same ∙ number-is y e in
      sym c.2 ∙ ap (λ i. get_or sorted i x) at ∙ at-same x y e

  -- each comes before the next
  pub next-less : (k : ℕ) (d : Reply) → k + 1 < length sorted → key_cmp (get_or sorted k d).key (get_or sorted (k + 1) d).key ≡ Less
  next-less k d lt =
      lt-less (key_cmp (get_or sorted k d).key (get_or sorted (k + 1) d).key)
      (before-next (get_or sorted k d) (get_or sorted (k + 1) d) (up k d (omega arith) lt) (apart_from_distinct same_key sorted k (k + 1) d apart (omega arith) lt))

-- ## The places that these numbers tell
-- The replies `xs` are those that are sorted, and `end` is how many they are.
module _ (xs sorted : List Reply) (end : ℕ) (same : IsPermutation xs sorted) (up : IsSortedByKey key_of key_cmp sorted) (apart : IsDistinct same_key sorted) (count : end ≡ length sorted) where
  abbrev number : Reply → ℕ
  number x = number_of sorted x.key

  abbrev told : Places
  told = places_by (told_number (numbers_among sorted xs) xs) end

  back : (x : Reply) → Contains sorted x → Contains xs x
  back x c = Contains-permutation sorted xs x (IsPermutation-sym xs sorted same) c

  among : (x : Reply) → Contains xs x → Contains sorted x
  among x c = Contains-permutation xs sorted x same c

  place-told : (entry : Option WireNo) (group : ℕ) (phase : Phase) (opening : ℕ) (is : IsTold (numbers_among sorted xs) xs number (in_turn entry group phase opening))
      → place_in (told_number (numbers_among sorted xs) xs) end (in_turn entry group phase opening) ≡ number is.reply
  place-told entry group phase opening is = ap (λ o. unwrap_or o (end + opening)) is.told

  -- no two connections have one
  turns-apart : (entry : Option WireNo) (group : ℕ) (phase : Phase) (a b : ℕ)
      → place_in (told_number (numbers_among sorted xs) xs) end (in_turn entry group phase a) ≡ place_in (told_number (numbers_among sorted xs) xs) end (in_turn entry group phase b) → a ≡ b
  turns-apart entry group phase a b e = by_cases (told-any number xs (in_turn entry group phase a)) (told-any number xs (in_turn entry group phase b))
    where
      by_cases : (told_number (numbers_among sorted xs) xs (in_turn entry group phase a) ≡ None) ⊎ IsTold (numbers_among sorted xs) xs number (in_turn entry group phase a)
          → (told_number (numbers_among sorted xs) xs (in_turn entry group phase b) ≡ None) ⊎ IsTold (numbers_among sorted xs) xs number (in_turn entry group phase b) → a ≡ b
      by_cases (inl none) (inl gone) =
          let both : end + a ≡ end + b = sym (ap (λ o. unwrap_or o (end + a)) none) ∙ e ∙ ap (λ o. unwrap_or o (end + b)) gone in
          omega (arith, both)
      by_cases (inl none) (inr is) =
          let both : end + a ≡ number is.reply = sym (ap (λ o. unwrap_or o (end + a)) none) ∙ e ∙ place-told entry group phase b is in
          absurd (omega (arith, both, count, number-below sorted up apart is.reply (among is.reply is.among)))
      by_cases (inr is) (inl gone) =
          let both : number is.reply ≡ end + b = sym (place-told entry group phase a is) ∙ e ∙ ap (λ o. unwrap_or o (end + b)) gone in
          absurd (omega (arith, both, count, number-below sorted up apart is.reply (among is.reply is.among)))
      by_cases (inr is) (inr other) =
          let both : number is.reply ≡ number other.reply = sym (place-told entry group phase a is) ∙ e ∙ place-told entry group phase b other in
          let one : is.reply ≡ other.reply = number-names sorted up apart is.reply other.reply (among is.reply is.among) (among other.reply other.among) both in
          ap (λ (t : Turn). t.opening) (sym is.given ∙ ap (λ (x : Reply). turn_of x.key) one ∙ other.given)

  told-apart : (entry : Option WireNo) (group : ℕ) (phase : Phase) (a b : ℕ) → told entry group phase a ≡ told entry group phase b → a ≡ b
  told-apart entry group Connect a b e = e
  told-apart entry group Taken a b e = e
  told-apart entry group Timer a b e = turns-apart entry group Timer a b e
  told-apart entry group Flush a b e = turns-apart entry group Flush a b e

  pub told-order : IsOrder told
  told-order = record { apart = told-apart; connects = λ entry group opening. refl; taken = λ entry group opening. refl }

  -- ## They rise as those by which the replies were sorted
  module _ (places : Places) (order : IsOrder places) (stand : AllByRecursion (HasPlace places) xs) where
    stands : (x : Reply) → Contains xs x → HasPlace places x
    stands x c = All-contains (HasPlace places) xs x (All-from_recursion (HasPlace places) xs stand) c

    turns-rise : (entry : Option WireNo) (group : ℕ) (phase : Phase) (a b : ℕ) → IsTold (numbers_among sorted xs) xs number (in_turn entry group phase a)
        → IsTold (numbers_among sorted xs) xs number (in_turn entry group phase b) → places entry group phase a < places entry group phase b
        → place_in (told_number (numbers_among sorted xs) xs) end (in_turn entry group phase a) < place_in (told_number (numbers_among sorted xs) xs) end (in_turn entry group phase b)
    turns-rise entry group phase a b is other lt =
        let x : Reply = is.reply in
        let y : Reply = other.reply in
        let first : x.key.place ≡ places entry group phase a = stands x is.among ∙ ap (place_at places) is.given in
        let second : y.key.place ≡ places entry group phase b = stands y other.among ∙ ap (place_at places) other.given in
        let block : SameBlock x.key y.key =
        record {
          entry = ap (λ (t : Turn). t.entry) is.given ∙ sym (ap (λ (t : Turn). t.entry) other.given);
          group = ap (λ (t : Turn). t.group.0) is.given ∙ sym (ap (λ (t : Turn). t.group.0) other.given);
          phase = ap (λ (t : Turn). t.phase) is.given ∙ sym (ap (λ (t : Turn). t.phase) other.given);
        } in
        let less : key_cmp x.key y.key ≡ Less =
        key-split x.key y.key
        ∙ then-behind (block_cmp x.key y.key) (ordering_then (nat_cmp x.key.place y.key.place) (rest_cmp x.key y.key)) (same-block x.key y.key block)
        ∙ first-less (nat_cmp x.key.place y.key.place) (rest_cmp x.key y.key) (less-nat x.key.place y.key.place (omega (arith, first, second, lt))) in
        let up_there : number x < number y = number-rises sorted up apart x y (among x is.among) (among y other.among) (ap is_lt less) in
        omega (arith, place-told entry group phase a is, place-told entry group phase b other, up_there)

    told-rises : (entry : Option WireNo) (group : ℕ) (phase : Phase) (a b : ℕ) → IsTold (numbers_among sorted xs) xs number (in_turn entry group phase a)
        → IsTold (numbers_among sorted xs) xs number (in_turn entry group phase b) → places entry group phase a < places entry group phase b → told entry group phase a < told entry group phase b
    told-rises entry group Connect a b is other lt = omega (arith, order.connects entry group a, order.connects entry group b, lt)
    told-rises entry group Taken a b is other lt = omega (arith, order.taken entry group a, order.taken entry group b, lt)
    told-rises entry group Timer a b is other lt = turns-rise entry group Timer a b is other lt
    told-rises entry group Flush a b is other lt = turns-rise entry group Flush a b is other lt

    -- of two replies in one phase of one cycle of a group
    abbrev of_second : Places → ReplyKey → ReplyKey → ℕ
    of_second p a b = p b.entry b.group.0 b.phase a.opening

    moved : (p : Places) (a b : ReplyKey) → SameBlock a b → place_of p a ≡ of_second p a b
    moved p a b block =
        ap (λ e. p e a.group.0 a.phase a.opening) block.entry
        ∙ ap (λ g. p b.entry g a.phase a.opening) block.group
        ∙ ap (λ h. p b.entry b.group.0 h a.opening) block.phase

    in-turn : (x : Reply) (b : ReplyKey) → SameBlock x.key b → turn_of x.key ≡ in_turn b.entry b.group.0 b.phase x.key.opening
    in-turn x b block =
        ap (λ e. in_turn e x.key.group.0 x.key.phase x.key.opening) block.entry
        ∙ ap (λ g. in_turn b.entry g x.key.phase x.key.opening) block.group
        ∙ ap (λ h. in_turn b.entry b.group.0 h x.key.opening) block.phase

    keeps-block : (x y : Reply) → Contains xs x → Contains xs y → SameBlock x.key y.key → ordering_then (nat_cmp x.key.place y.key.place) (rest_cmp x.key y.key) ≡ Less
        → ordering_then (nat_cmp (place_of told x.key) (place_of told y.key)) (rest_cmp x.key y.key) ≡ Less
    keeps-block x y c e block less = by_place (then-less (nat_cmp x.key.place y.key.place) (rest_cmp x.key y.key) less)
      where
        by_place : (nat_cmp x.key.place y.key.place ≡ Less) ⊎ ((nat_cmp x.key.place y.key.place ≡ Equal) × (rest_cmp x.key y.key ≡ Less))
            → ordering_then (nat_cmp (place_of told x.key) (place_of told y.key)) (rest_cmp x.key y.key) ≡ Less
        by_place (inl lower) =
            let before : of_second places x.key y.key < place_of places y.key =
            omega (arith, nat-less x.key.place y.key.place lower, stands x c, stands y e, moved places x.key y.key block) in
            let rises : of_second told x.key y.key < place_of told y.key =
            told-rises y.key.entry y.key.group.0 y.key.phase x.key.opening y.key.opening
            (told-given number xs (in_turn y.key.entry y.key.group.0 y.key.phase x.key.opening) x c (in-turn x y.key block))
            (told-given number xs (in_turn y.key.entry y.key.group.0 y.key.phase y.key.opening) y e refl) before in
            first-less (nat_cmp (place_of told x.key) (place_of told y.key)) (rest_cmp x.key y.key)
            (less-nat (place_of told x.key) (place_of told y.key) (omega (arith, moved told x.key y.key block, rises)))
        by_place (inr tied) =
            let one : of_second places x.key y.key ≡ place_of places y.key =
            sym (moved places x.key y.key block) ∙ sym (stands x c) ∙ nat-equal x.key.place y.key.place tied.0 ∙ stands y e in
            let opening : x.key.opening ≡ y.key.opening = order.apart y.key.entry y.key.group.0 y.key.phase x.key.opening y.key.opening one in
            then-behind (nat_cmp (place_of told x.key) (place_of told y.key)) (rest_cmp x.key y.key)
            (nat-tied (place_of told x.key) (place_of told y.key) (moved told x.key y.key block ∙ ap (told y.key.entry y.key.group.0 y.key.phase) opening))
            ∙ tied.1

    keeps : (x y : Reply) → Contains xs x → Contains xs y → key_cmp x.key y.key ≡ Less → key_cmp (key_with told x.key) (key_with told y.key) ≡ Less
    keeps x y c e less =
        key-split (key_with told x.key) (key_with told y.key)
        ∙ by_block (then-less (block_cmp x.key y.key) (ordering_then (nat_cmp x.key.place y.key.place) (rest_cmp x.key y.key)) (sym (key-split x.key y.key) ∙ less))
      where
        by_block : (block_cmp x.key y.key ≡ Less) ⊎ ((block_cmp x.key y.key ≡ Equal) × (ordering_then (nat_cmp x.key.place y.key.place) (rest_cmp x.key y.key) ≡ Less))
            → ordering_then (block_cmp x.key y.key) (ordering_then (nat_cmp (place_of told x.key) (place_of told y.key)) (rest_cmp x.key y.key)) ≡ Less
        by_block (inl lower) = first-less (block_cmp x.key y.key) (ordering_then (nat_cmp (place_of told x.key) (place_of told y.key)) (rest_cmp x.key y.key)) lower
        by_block (inr tied) =
            then-behind (block_cmp x.key y.key) (ordering_then (nat_cmp (place_of told x.key) (place_of told y.key)) (rest_cmp x.key y.key)) tied.0
            ∙ keeps-block x y c e (block-same x.key y.key tied.0) tied.1

    pub told-sorted : IsSortedByKey key_of key_cmp (map (reply_with told) sorted)
    told-sorted k d low lt =
        let within : k + 1 < length sorted = omega (arith, lt, length-map sorted (reply_with told)) in
        let x : Reply = get_or sorted k d in
        let y : Reply = get_or sorted (k + 1) d in
        let less : key_cmp (key_with told x.key) (key_with told y.key) ≡ Less =
        keeps x y (back x (k, omega (arith, within), get_or_default sorted k x d (omega (arith, within))))
        (back y (k + 1, within, get_or_default sorted (k + 1) y d within)) (next-less sorted up apart k d within) in
        ap (λ (z : Reply). is_lt (key_cmp z.key (get_or (map (reply_with told) sorted) k d).key)) (get_or-map (reply_with told) sorted (k + 1) d d within)
        ∙ ap (λ (z : Reply). is_lt (key_cmp (key_with told y.key) z.key)) (get_or-map (reply_with told) sorted k d d (omega (arith, within)))
        ∙ ap is_lt (turned-cmp (key_with told y.key) (key_with told x.key) ∙ ap ordering_reverse less)
