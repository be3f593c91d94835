-- One list begins another.
use Rattle.std.specs.Prelude.{◌≡◌, ℕ, List, [], ◌++◌, take, drop}
use Rattle.std.proofs.Common.{refl, sym, ◌∙◌, ap, take-append-drop}
use Rattle.std.proofs.lemmas.List.{append_assoc, append-nil}

-- The whole list is the front, and then some rest.
pub record IsPrefix {A : Type 0} (front whole : List A) : Type 0 where
  pub rest : List A
  pub joined : whole ≡ front ++ rest

-- ## Laws
pub prefix_nil : {A : Type 0} (xs : List A) → IsPrefix [] xs
prefix_nil xs = record { rest = xs; joined = refl }

pub prefix_refl : {A : Type 0} (xs : List A) → IsPrefix xs xs
prefix_refl xs = record { rest = []; joined = sym (append-nil xs) }

pub prefix_append : {A : Type 0} (xs ys : List A) → IsPrefix xs (xs ++ ys)
prefix_append xs ys = record { rest = ys; joined = refl }

pub prefix_take : {A : Type 0} (n : ℕ) (xs : List A) → IsPrefix (take n xs) xs
prefix_take n xs = record { rest = drop n xs; joined = sym (take-append-drop n xs) }

pub prefix_trans : {A : Type 0} (xs ys zs : List A) → IsPrefix xs ys → IsPrefix ys zs → IsPrefix xs zs
prefix_trans xs ys zs p q = record {
  rest = p.rest ++ q.rest;
  joined = q.joined ∙ ap (λ (l : List _). l ++ q.rest) p.joined ∙ append_assoc xs p.rest q.rest;
}

-- behind one front
pub prefix_behind : {A : Type 0} (xs ys zs : List A) → IsPrefix ys zs → IsPrefix (xs ++ ys) (xs ++ zs)
prefix_behind xs ys zs p = record { rest = p.rest; joined = ap (λ (l : List _). xs ++ l) p.joined ∙ sym (append_assoc xs ys p.rest) }
