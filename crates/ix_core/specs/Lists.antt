-- Lists that grow from one turn to the next.
use Rattle.std.proofs.Common.{◌≡◌, List, ◌++◌, sym, ap, ◌∙◌, append_assoc}

-- what came and then comes, and what was dealt and then waits
pub chain : {X : Type 0} (a b c i j d e : List X) → a ++ i ≡ d ++ b → b ++ j ≡ e ++ c → a ++ (i ++ j) ≡ (d ++ e) ++ c
chain a b c i j d e p q = sym (append_assoc a i j) ∙ ap (λ l. l ++ j) p ∙ append_assoc d b j ∙ ap (λ l. d ++ l) q ∙ sym (append_assoc d e c)

-- what grew by some and then by some more
pub grows : {X : Type 0} (a b c i j : List X) → b ≡ a ++ i → c ≡ b ++ j → c ≡ a ++ (i ++ j)
grows a b c i j p q = q ∙ ap (λ l. l ++ j) p ∙ append_assoc a i j

-- what was put and what waits grew by some and then by some more
pub puts : {X : Type 0} (a b c u v w i j : List X) → b ++ v ≡ a ++ (u ++ i) → c ++ w ≡ b ++ (v ++ j) → c ++ w ≡ a ++ (u ++ (i ++ j))
puts a b c u v w i j p q = q ∙ sym (append_assoc b v j) ∙ ap (λ l. l ++ j) p ∙ append_assoc a (u ++ i) j ∙ ap (λ l. a ++ l) (append_assoc u i j)
