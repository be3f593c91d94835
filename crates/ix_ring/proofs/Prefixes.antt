-- Prefixes.
use Rattle.std.proofs.Common.{List, ◌++◌, append_assoc, ap, sym, ◌∙◌}
use mathlib.Core.List.{IsPrefix}

pub prefix_joins : {T : Type 0} (xs ys zs : List T) → IsPrefix xs ys → IsPrefix ys zs → IsPrefix xs zs
prefix_joins xs ys zs p q = (p.0 ++ q.0, sym (append_assoc xs p.0 q.0) ∙ ap (λ s. s ++ q.0) p.1 ∙ q.1)
