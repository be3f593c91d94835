-- Replies that are given their keys, one after another; and lists that are compared so.
use Rattle.std.proofs.Common.{◌≡◌, ℕ, zero, suc, ◌+◌, ◌<◌, ◌≤◌, refl, sym, ap, ◌∙◌, List, [], ◌∷◌, ◌++◌, append-nil, drop, get_or, length, map, set, take, subst, ◌⊎◌, inl, inr, length-append, arith}
use Rattle.std.specs.Prelude.{None}
use Rattle.std.proofs.lemmas.Bool.{cases_lt}
use Rattle.std.proofs.lemmas.List.{drop_all, get_or-map, get_or_default, length-map, length-set, take_all, take_more_same}
use Rattle.ix_playdef.specs.declared.order.Phase.TheVariants.{Connect}
use Rattle.ix_playdef.specs.Replies.{Places}
use Rattle.ix_playdef.specs.declared.order.Reply.{Reply}
use Rattle.ix_playdef.specs.declared.order.ReplyKey.{ReplyKey}
use Rattle.ix_places.specs.Told.{key_with, reply_with}

-- ## What a loop has changed, and the rest
pub changed : {A : Type 0} → (A → A) → ℕ → List A → List A
changed f i xs = map f (take i xs) ++ drop i xs

pub changed-at : {A : Type 0} (f : A → A) (xs : List A) (i : ℕ) (d : A) → get_or (changed f i xs) i d ≡ get_or xs i d
unfolding changed
changed-at f [] zero d = refl
changed-at f [] (suc i) d = refl
changed-at f (x ∷ xs) zero d = refl
changed-at f (x ∷ xs) (suc i) d = changed-at f xs i d

changed-suc : {A : Type 0} (f : A → A) (xs : List A) (i : ℕ) (d y : A) → i < length xs → y ≡ f (get_or xs i d) → set (changed f i xs) i y ≡ changed f (suc i) xs
unfolding changed
changed-suc f [] i d y lt is = absurd (omega (arith, lt))
changed-suc f (x ∷ xs) zero d y lt is = ap (λ z. z ∷ xs) is
changed-suc f (x ∷ xs) (suc i) d y lt is = ap (λ zs. f x ∷ zs) (changed-suc f xs i d y (omega (arith, lt)) is)

pub changed-more : {A : Type 0} (f : A → A) (xs ys : List A) (i : ℕ) (d y : A) → i < length xs → y ≡ f (get_or xs i d) → ys ≡ changed f i xs → set ys i y ≡ changed f (i + 1) xs
changed-more f xs ys i d y lt is so_far = ap (λ zs. set zs i y) so_far ∙ changed-suc f xs i d y lt is ∙ ap (λ n. changed f n xs) (let e : suc i ≡ i + 1 = omega arith in e)

pub changed-none : {A : Type 0} (f : A → A) (xs : List A) → xs ≡ changed f 0 xs
unfolding changed
changed-none f xs = refl

pub changed-all : {A : Type 0} (f : A → A) (xs : List A) (i : ℕ) → length xs ≤ i → changed f i xs ≡ map f xs
unfolding changed
changed-all f xs i le = ap (λ ys. map f ys ++ drop i xs) (take_all i xs le) ∙ ap (λ ys. map f xs ++ ys) (drop_all i xs le) ∙ append-nil (map f xs)

-- ## Lists that are compared place by place
pub same-more : (xs ys : List ℕ) (i : ℕ) → i < length xs → length xs ≡ length ys → get_or xs i 0 ≡ get_or ys i 0 → take i xs ≡ take i ys → take (i + 1) xs ≡ take (i + 1) ys
same-more xs ys i lt long e so_far = take_more_same xs ys i 0 lt (omega (arith, lt, long)) so_far e

pub same-all : (xs ys : List ℕ) (i : ℕ) → length xs ≤ i → length xs ≡ length ys → take i xs ≡ take i ys → xs ≡ ys
same-all xs ys i le long so_far = sym (take_all i xs le) ∙ so_far ∙ take_all i ys (omega (arith, le, long))

pub same-fails : (xs ys : List ℕ) (i : ℕ) → (get_or xs i 0 ≡ get_or ys i 0 → ⊥) → xs ≡ ys → ⊥
same-fails xs ys i apart is = apart (ap (λ zs. get_or zs i 0) is)

-- ## The key of a reply, and the number that it has
abbrev pub no_key : ReplyKey
no_key = record { entry = None; group = record { 0 = 0 }; phase = Connect; place = 0; opening = 0; input = 0; output = 0 }

pub set-next : (places : Places) (xs items : List Reply) (keys : List ReplyKey) (i : ℕ) (x : Reply) → i < length xs → x ≡ get_or items i x → keys ≡ map (λ (y : Reply). key_with places y.key) xs
    → items ≡ changed (reply_with places) i xs → set items i (record { key = get_or keys i no_key; frame = x.frame }) ≡ changed (reply_with places) (i + 1) xs
set-next places xs items keys i x lt there keyed so_far =
    let z : Reply = get_or xs i x in
    let same : x ≡ z = there ∙ ap (λ ys. get_or ys i x) so_far ∙ changed-at (reply_with places) xs i x in
    let key : get_or keys i no_key ≡ key_with places z.key = ap (λ ks. get_or ks i no_key) keyed ∙ get_or-map (λ (y : Reply). key_with places y.key) xs i x no_key lt in
    changed-more (reply_with places) xs items i x (record { key = get_or keys i no_key; frame = x.frame }) lt
    (ap (λ (k : ReplyKey). (let y : Reply = record { key = k; frame = x.frame } in y)) key
    ∙ ap (λ (w : Reply). (let y : Reply = record { key = key_with places z.key; frame = w.frame } in y)) same) so_far

pub named-fails : (f : ReplyKey → ℕ) (keys : List ReplyKey) (numbers : List ℕ) (i n : ℕ) → i < length keys → n ≡ f (get_or keys i no_key) → (n ≡ get_or numbers i 0 → ⊥) → numbers ≡ map f keys → ⊥
named-fails f keys numbers i n lt is apart all = apart (is ∙ sym (get_or-map f keys i no_key 0 lt) ∙ sym (ap (λ ns. get_or ns i 0) all))

pub named-more : (f : ReplyKey → ℕ) (keys : List ReplyKey) (numbers : List ℕ) (i n : ℕ) → i < length keys → length keys ≡ length numbers → n ≡ f (get_or keys i no_key) → n ≡ get_or numbers i 0
    → take i numbers ≡ take i (map f keys) → take (i + 1) numbers ≡ take (i + 1) (map f keys)
named-more f keys numbers i n lt long is same so_far =
    same-more numbers (map f keys) i (omega (arith, lt, long)) (sym long ∙ sym (length-map keys f)) (sym same ∙ is ∙ sym (get_or-map f keys i no_key 0 lt)) so_far

pub named-all : (f : ReplyKey → ℕ) (keys : List ReplyKey) (numbers : List ℕ) (i : ℕ) → length keys ≤ i → length keys ≡ length numbers → take i numbers ≡ take i (map f keys) → numbers ≡ map f keys
named-all f keys numbers i le long so_far = same-all numbers (map f keys) i (omega (arith, le, long)) (sym long ∙ sym (length-map keys f)) so_far

pub each-more : {A : Type 0} (P : ℕ → A → Type 0) (xs : List A) (i : ℕ) (x : A) → i < length xs → x ≡ get_or xs i x → P i x → ((g : ℕ) (d : A) → g < i → P g (get_or xs g d)) → (g : ℕ) (d : A) → g < i + 1
    → P g (get_or xs g d)
each-more P xs i x lt there here before g d below = by_case (cases_lt g i)
  where
    by_case : (g < i) ⊎ (i ≤ g) → P g (get_or xs g d)
    by_case (inl less) = before g d less
    by_case (inr ge) =
        let same : i ≡ g = omega (arith, below, ge) in
        subst (λ n. P n (get_or xs n d)) same (subst (P i) (there ∙ get_or_default xs i x d lt) here)

pub grown : {A B : Type 0} (xs : List A) (ys : List B) (more : List A) (most : List B) (new : List A) (old : List B) → new ≡ xs ++ more → old ≡ ys ++ most → length xs ≡ length ys → length new ≡ length old
    → length more ≡ length most
grown xs ys more most new old a b before after = omega (arith, ap length a, ap length b, length-append xs more, length-append ys most, before, after)

pub set-long : (xs : List Reply) (i n : ℕ) (y : Reply) → length xs ≡ n → length (set xs i y) ≡ n
set-long xs i n y long = length-set xs i y ∙ long

pub ruleset for_set = (changed-none, changed-all)
