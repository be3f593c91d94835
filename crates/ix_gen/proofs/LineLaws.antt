-- Lines and words of the script, and what they say.
use Rattle.std.proofs.Common.{◌≡◌, ℕ, ◌+◌, ◌%◌, ◌^◌, ◌<◌, ◌≤◌, List, [], ◌∷◌, ◌++◌, length, refl, ◌∙◌, arith, Bool, true, false, Some, length-append, codes}
use Rattle.std.specs.Prelude.{◌==◌, nat_lt, Ok}
use Rattle.std.specs.List.{list_all}
use Rattle.std.specs.Fmt.{decimal}
use Rattle.std.proofs.lemmas.Bool.{and_parts, and_from, lt-ltb}
use Rattle.std.proofs.lemmas.Bool.Decides.{nat_tests}
use Rattle.std.proofs.lemmas.Fmt.{decimal_by_steps, length-decimal-le}
use Rattle.ix_words.specs.Numbers.{number_of}
use Rattle.ix_words.specs.Parts.{parts, join, push_front as push_part}
use Rattle.ix_words.specs.PartLaws.{parts-join, is_plain, all_plain, all_lack-plain}
use Rattle.ix_words.specs.NumberLaws.{number_of-again, plain-decimal}
use Rattle.ix_wire.specs.declared.command.Command.{Command}
use Rattle.ix_wire.specs.declared.command.Command.TheVariants as commands
use Rattle.ix_wire.specs.declared.command.Version.TheVariants.{One}
use Rattle.ix_wire.specs.declared.progress.Progress.{Progress}
use Rattle.ix_wire.specs.Command.{command_of}
use Rattle.ix_wire.specs.Progress.{is_printable, is_skipped, line_run, run}
use Rattle.ix_wire.specs.Text.{lines_of, words_of, push_front}

-- ---- printable bytes
pub printable_append : (xs ys : List ℕ) → list_all is_printable xs ≡ true → list_all is_printable ys ≡ true → list_all is_printable (xs ++ ys) ≡ true
printable_append [] ys h k = k
printable_append (x ∷ xs) ys h k =
    let both = and_parts (is_printable x) (list_all is_printable xs) h in
    and_from (is_printable x) (list_all is_printable (xs ++ ys)) both.0 (printable_append xs ys both.1 k)

printable_digit : (n : ℕ) → n < 10 → list_all is_printable ((48 + n) ∷ []) ≡ true
printable_digit n h = grind (arith, nat_tests)

pub printable_decimal : (n : ℕ) → n < 2 ^ 64 → list_all is_printable (decimal n) ≡ true
printable_decimal n h = decimal_by_steps (λ n ds. list_all is_printable ds ≡ true)
    printable_digit
    (λ n ds many so_far. printable_append ds ((48 + n % 10) ∷ []) so_far (printable_digit (n % 10) (omega arith)))
    n h

-- ---- a line ends at its line feed
pub line_ends : (w rest : List ℕ) → list_all is_printable w ≡ true → lines_of (w ++ 10 ∷ rest) ≡ w ∷ lines_of rest
line_ends [] rest h = refl
line_ends (b ∷ bs) rest h =
    let both = and_parts (is_printable b) (list_all is_printable bs) h in
    let feed : (b == 10) ≡ false = grind (arith, nat_tests, both.0) in
    let return : (b == 13) ≡ false = grind (arith, nat_tests, both.0) in
    rw (feed, return, line_ends bs rest both.1) refl

-- ---- words
push_same : (b : ℕ) (ps : List (List ℕ)) → push_front b ps ≡ push_part b ps
push_same b [] = refl
push_same b (p ∷ ps) = refl

words_parts : (bs : List ℕ) → words_of bs ≡ parts 32 bs
words_parts [] = refl
words_parts (b ∷ bs) = rw (words_parts bs, push_same b (parts 32 bs)) refl

pub words_joined : (w : List ℕ) (ws : List (List ℕ)) → all_plain (w ∷ ws) ≡ true → words_of (join 32 (w ∷ ws)) ≡ w ∷ ws
words_joined w ws h = words_parts (join 32 (w ∷ ws)) ∙ parts-join 32 w ws (all_lack-plain 32 (w ∷ ws) (omega arith) h)

-- ---- a line that says something
line_said : (own : List Bool) (number : ℕ) (line : List ℕ) (words : List (List ℕ)) (p : Progress) (command : Command)
    → length line ≤ 128 → is_skipped line ≡ false → list_all is_printable line ≡ true → words_of line ≡ words
    → command_of p.begun p.version words ≡ Ok command
    → line_run own number line p ≡ run own number command (record p { begun = true })
unfolding line_run
line_said own number line words p command short says printable split is =
    let within : nat_lt 128 (length line) ≡ false = grind (arith, nat_tests) in
    rw (within, says, printable, split, is) refl

says_word : (b : ℕ) (bs : List ℕ) → (b == 35) ≡ false → is_skipped (b ∷ bs) ≡ false
says_word b bs h = grind (arith, nat_tests)

-- the words of a line, each of them plain and printable
pub record IsLine (words : List (List ℕ)) (line : List ℕ) : Type 0 where
  pub short : length line ≤ 128
  pub says : is_skipped line ≡ false
  pub printable : list_all is_printable line ≡ true
  pub spoken : words_of line ≡ words

pub line_runs : (own : List Bool) (number : ℕ) (line : List ℕ) (words : List (List ℕ)) (p : Progress) (command : Command)
    → IsLine words line → command_of p.begun p.version words ≡ Ok command
    → line_run own number line p ≡ run own number command (record p { begun = true })
line_runs own number line words p command l is = line_said own number line words p command l.short l.says l.printable l.spoken is

-- numbers of a script that has few records
abbrev pub IsFew : ℕ → Type 0
IsFew n = n < 10000

plain_number : (n : ℕ) → IsFew n → is_plain (decimal n) ≡ true
plain_number n h = plain-decimal n (omega arith)

pub settle_line : IsLine (codes "settle" ∷ []) (codes "settle")
settle_line = record { short = omega arith; says = refl; printable = refl; spoken = words_joined (codes "settle") [] refl }

pub frames_line : (a b : ℕ) → IsFew a → IsFew b
    → IsLine (codes "frames" ∷ decimal a ∷ decimal b ∷ []) (codes "frames" ++ 32 ∷ (decimal a ++ 32 ∷ decimal b))
frames_line a b h k =
    let plain : all_plain (codes "frames" ∷ decimal a ∷ decimal b ∷ []) ≡ true = rw (plain_number a h, plain_number b k) refl in
    let la = length-decimal-le 4 a (omega arith) (omega arith) (omega arith) in
    let lb = length-decimal-le 4 b (omega arith) (omega arith) (omega arith) in
    let l1 = length-append (decimal a) (32 ∷ decimal b) in
    let tail : list_all is_printable (decimal a ++ 32 ∷ decimal b) ≡ true =
    printable_append (decimal a) (32 ∷ decimal b) (printable_decimal a (omega arith)) (printable_decimal b (omega arith)) in
    record {
      short = (omega (arith, la, lb, l1));
      says = says_word 102 (codes "rames" ++ 32 ∷ (decimal a ++ 32 ∷ decimal b)) refl;
      printable = tail;
      spoken = words_joined (codes "frames") (decimal a ∷ decimal b ∷ []) plain;
    }

pub tag_line : (a : ℕ) → IsFew a → IsLine (codes "tag" ∷ decimal a ∷ []) (codes "tag" ++ 32 ∷ decimal a)
tag_line a h =
    let plain : all_plain (codes "tag" ∷ decimal a ∷ []) ≡ true = rw (plain_number a h) refl in
    let la = length-decimal-le 4 a (omega arith) (omega arith) (omega arith) in
    record {
      short = (omega (arith, la));
      says = says_word 116 (codes "ag" ++ 32 ∷ decimal a) refl;
      printable = printable_decimal a (omega arith);
      spoken = words_joined (codes "tag") (decimal a ∷ []) plain;
    }

pub move_line : (a b : ℕ) → IsFew a → IsFew b
    → IsLine (codes "move" ∷ decimal a ∷ decimal b ∷ []) (codes "move" ++ 32 ∷ (decimal a ++ 32 ∷ decimal b))
move_line a b h k =
    let plain : all_plain (codes "move" ∷ decimal a ∷ decimal b ∷ []) ≡ true = rw (plain_number a h, plain_number b k) refl in
    let la = length-decimal-le 4 a (omega arith) (omega arith) (omega arith) in
    let lb = length-decimal-le 4 b (omega arith) (omega arith) (omega arith) in
    let l1 = length-append (decimal a) (32 ∷ decimal b) in
    let tail : list_all is_printable (decimal a ++ 32 ∷ decimal b) ≡ true =
    printable_append (decimal a) (32 ∷ decimal b) (printable_decimal a (omega arith)) (printable_decimal b (omega arith)) in
    record {
      short = (omega (arith, la, lb, l1));
      says = says_word 109 (codes "ove" ++ 32 ∷ (decimal a ++ 32 ∷ decimal b)) refl;
      printable = tail;
      spoken = words_joined (codes "move") (decimal a ∷ decimal b ∷ []) plain;
    }

-- ---- what the words say
pub settle_says : (begun : Bool) → command_of begun One (codes "settle" ∷ []) ≡ Ok commands.Settle
unfolding command_of
settle_says begun = refl

again : (n : ℕ) → IsFew n → number_of 4294967295 (decimal n) ≡ Some n
again n h = number_of-again 4294967295 n (omega arith) (omega arith)

pub frames_says : (begun : Bool) (a b : ℕ) → IsFew a → IsFew b → a ≤ b
    → command_of begun One (codes "frames" ∷ decimal a ∷ decimal b ∷ []) ≡ Ok (commands.Frames a b)
unfolding command_of
frames_says begun a b h k order =
    let rising : nat_lt b a ≡ false = grind (arith, nat_tests) in
    rw (again a h, again b k, rising) refl

pub tag_says : (begun : Bool) (a : ℕ) → a < 128 → command_of begun One (codes "tag" ∷ decimal a ∷ []) ≡ Ok (commands.Tag a)
unfolding command_of
tag_says begun a h = rw (again a (omega arith), lt-ltb a 128 h) refl

pub move_says : (begun : Bool) (a b : ℕ) → a < 128 → IsFew b
    → command_of begun One (codes "move" ∷ decimal a ∷ decimal b ∷ []) ≡ Ok (commands.Move a b)
unfolding command_of
move_says begun a b h k = rw (again a (omega arith), again b k, lt-ltb a 128 h) refl
