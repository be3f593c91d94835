-- What entries put on a ring: piece by piece, at tables that are the same, and with numbers that rise.
use Rattle.std.proofs.Common.{◌≡◌, ◌+◌, ◌<◌, ◌≤◌, ◌==◌, ℕ, suc, Bool, true, false, List, [], ◌∷◌, ◌++◌, length, refl, sym, ap, subst, ◌∙◌, append_assoc, arith}
use Rattle.std.specs.Prelude.{if◌then◌else◌}
use Rattle.ix_order.specs.Wire.{Entry, Item, RingIs, RingsAre, Seat, Table, accepted, clock, cut, dropped, ended, frame, move, put_by, put_on, settle, start, tag, tagged, time, turned, work}
use Rattle.ix_nic.specs.Entries.{turned_by}

-- ## The same tables
abbrev pub SameTable : Table → Table → Type 0
SameTable t u = (g : ℕ) → t g ≡ u g

turned-same : (t u : Table) (e : Entry) → SameTable t u → SameTable (turned t e) (turned u e)
turned-same t u (move h c) same g = by (g == h) where
  by : (b : Bool) → (if b then record { core = c; tenure = (t h).tenure + 1 } else t g) ≡ (if b then record { core = c; tenure = (u h).tenure + 1 } else u g)
  by true = ap (λ (s : Seat). let x : Seat = record { core = c; tenure = s.tenure + 1 } in x) (same h)
  by false = same g
turned-same t u (frame h v) same g = same g
turned-same t u time same g = same g
turned-same t u (tag h) same g = same g
turned-same t u settle same g = same g

put-same : (r : ℕ) (t u : Table) (w : ℕ) (e : Entry) → SameTable t u → put_by r t w e ≡ put_by r u w e
put-same r t u w (frame g (accepted s)) same = refl
put-same r t u w (frame g dropped) same = refl
put-same r t u w time same = refl
put-same r t u w (tag g) same = ap (λ (s : Seat). if r == s.core then tagged g ∷ [] else []) (same g)
put-same r t u w (move g c) same = ap (λ (s : Seat). (if r == s.core then cut g c ∷ [] else []) ++ (if r == c then start g (s.tenure + 1) ∷ [] else [])) (same g)
put-same r t u w settle same = refl

pub put-on-same : (r : ℕ) (t u : Table) (w : ℕ) (es : List Entry) → SameTable t u → put_on r t w es ≡ put_on r u w es
put-on-same r t u w [] same = refl
put-on-same r t u w (e ∷ es) same =
    ap (λ l. l ++ put_on r (turned t e) (suc w) es) (put-same r t u w e same)
    ∙ ap (λ l. put_by r u w e ++ l) (put-on-same r (turned t e) (turned u e) (suc w) es (turned-same t u e same))

ring-same : (t u : Table) (e : Entry) → SameTable t u → RingIs t e → RingIs u e
ring-same t u (frame g (accepted s)) same is = is ∙ ap (λ (x : Seat). x.core) (same g)
ring-same t u (frame g dropped) same is = tt
ring-same t u time same is = tt
ring-same t u (tag g) same is = tt
ring-same t u (move g c) same is = tt
ring-same t u settle same is = tt

pub rings-same : (t u : Table) (es : List Entry) → SameTable t u → RingsAre t es → RingsAre u es
rings-same t u [] same are = tt
rings-same t u (e ∷ es) same are = (ring-same t u e same are.0, rings-same (turned t e) (turned u e) es (turned-same t u e same) are.1)

pub turned-by-same : (t u : Table) (es : List Entry) → SameTable t u → SameTable (turned_by t es) (turned_by u es)
turned-by-same t u [] same = same
turned-by-same t u (e ∷ es) same = turned-by-same (turned t e) (turned u e) es (turned-same t u e same)

-- ## One list behind another
pub turned-by-append : (t : Table) (es fs : List Entry) → turned_by t (es ++ fs) ≡ turned_by (turned_by t es) fs
turned-by-append t [] fs = refl
turned-by-append t (e ∷ es) fs = turned-by-append (turned t e) es fs

pub put-on-append : (r : ℕ) (t : Table) (w : ℕ) (es fs : List Entry) → put_on r t w (es ++ fs) ≡ put_on r t w es ++ put_on r (turned_by t es) (w + length es) fs
put-on-append r t w [] fs = ap (λ n. put_on r t n fs) (omega arith)
put-on-append r t w (e ∷ es) fs =
    ap (λ l. put_by r t w e ++ l) (put-on-append r (turned t e) (suc w) es fs ∙ ap (λ n. put_on r (turned t e) (suc w) es ++ put_on r (turned_by (turned t e) es) n fs) (omega arith))
    ∙ sym (append_assoc (put_by r t w e) (put_on r (turned t e) (suc w) es) (put_on r (turned_by t (e ∷ es)) (w + length (e ∷ es)) fs))

pub rings-append : (t : Table) (es fs : List Entry) → RingsAre t es → RingsAre (turned_by t es) fs → RingsAre t (es ++ fs)
rings-append t [] fs a b = b
rings-append t (e ∷ es) fs a b = (a.0, rings-append (turned t e) es fs a.1 b)

-- ## Numbers
-- the numbers of frames and times are these or greater ones, below a bound, and those of frames rise
abbrev pub AreNumbered : ℕ → ℕ → List Item → Type 0
AreNumbered low high [] = Unit {0}
AreNumbered low high (work g w ∷ ws) = (low ≤ w) × (w < high) × AreNumbered (suc w) high ws
AreNumbered low high (clock w ∷ ws) = (low ≤ w) × (w < high) × AreNumbered low high ws
AreNumbered low high (tagged g ∷ ws) = AreNumbered low high ws
AreNumbered low high (cut g c ∷ ws) = AreNumbered low high ws
AreNumbered low high (start g k ∷ ws) = AreNumbered low high ws
AreNumbered low high (ended ∷ ws) = AreNumbered low high ws

numbered-lower : (low low' high : ℕ) (ws : List Item) → low' ≤ low → AreNumbered low high ws → AreNumbered low' high ws
numbered-lower low low' high [] le h = tt
numbered-lower low low' high (work g w ∷ ws) le h = (omega (arith, le, h.0), h.1, h.2)
numbered-lower low low' high (clock w ∷ ws) le h = (omega (arith, le, h.0), h.1, numbered-lower low low' high ws le h.2)
numbered-lower low low' high (tagged g ∷ ws) le h = numbered-lower low low' high ws le h
numbered-lower low low' high (cut g c ∷ ws) le h = numbered-lower low low' high ws le h
numbered-lower low low' high (start g k ∷ ws) le h = numbered-lower low low' high ws le h
numbered-lower low low' high (ended ∷ ws) le h = numbered-lower low low' high ws le h

numbered-behind : (r : ℕ) (t : Table) (w : ℕ) (e : Entry) (es : List Entry) → AreNumbered (suc w) (suc w + length es) (put_on r (turned t e) (suc w) es)
    → AreNumbered w (w + length (e ∷ es)) (put_on r t w (e ∷ es))
numbered-behind r t w e es behind = one e where
  rest : AreNumbered (suc w) (w + length (e ∷ es)) (put_on r (turned t e) (suc w) es)
  rest = subst (λ n. AreNumbered (suc w) n (put_on r (turned t e) (suc w) es)) (omega arith) behind

  lower : AreNumbered w (w + length (e ∷ es)) (put_on r (turned t e) (suc w) es)
  lower = numbered-lower (suc w) w (w + length (e ∷ es)) (put_on r (turned t e) (suc w) es) (omega arith) rest

  less : w < w + length (e ∷ es)
  less = omega arith

  framed : (b : Bool) (g : ℕ) → AreNumbered w (w + length (e ∷ es)) ((if b then work g w ∷ [] else []) ++ put_on r (turned t e) (suc w) es)
  framed true g = (omega arith, less, rest)
  framed false g = lower

  tag-on : (b : Bool) (g : ℕ) → AreNumbered w (w + length (e ∷ es)) ((if b then tagged g ∷ [] else []) ++ put_on r (turned t e) (suc w) es)
  tag-on true g = lower
  tag-on false g = lower

  moved : (a b : Bool) (g c k : ℕ) → AreNumbered w (w + length (e ∷ es)) (((if a then cut g c ∷ [] else []) ++ (if b then start g k ∷ [] else [])) ++ put_on r (turned t e) (suc w) es)
  moved true true g c k = lower
  moved true false g c k = lower
  moved false true g c k = lower
  moved false false g c k = lower

  one : (x : Entry) → AreNumbered w (w + length (e ∷ es)) (put_by r t w x ++ put_on r (turned t e) (suc w) es)
  one (frame g (accepted s)) = framed (r == s) g
  one (frame g dropped) = lower
  one time = (omega arith, less, lower)
  one (tag g) = tag-on (r == (t g).core) g
  one (move g c) = moved (r == (t g).core) (r == c) g c ((t g).tenure + 1)
  one settle = lower

pub put-on-numbered : (r : ℕ) (t : Table) (w : ℕ) (es : List Entry) → AreNumbered w (w + length es) (put_on r t w es)
put-on-numbered r t w [] = tt
put-on-numbered r t w (e ∷ es) = numbered-behind r t w e es (put-on-numbered r (turned t e) (suc w) es)
