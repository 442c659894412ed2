-- The arguments are those of one command at most, with one number. The first two letters of a command's name, of which `c` has one, and the number of
-- the arguments tell it.
use Rattle.std.proofs.Common.{◌≡◌, ℕ, ◌+◌, ◌*◌, ◌^◌, ◌<◌, pos, List, ◌∷◌, length, true, false, refl, ap, sym, ◌∙◌, subst, arith}
use Rattle.std.specs.Prelude.{codes, nat_eq, if◌then◌else◌}
use Rattle.std.proofs.lemmas.Fmt.{signed_decimal_injective}
use Rattle.command_line.specs.Words.{word_of, IsCount}
use Rattle.command_line.specs.Commands.{AreOf}
use Rattle.command_line.specs.declared.words.Command.{Command}
use Rattle.command_line.specs.declared.words.Command.TheVariants as commands

-- ---- a command without its number, and with another
abbrev bare : Command → Command
bare (commands.Loop turns disturbed) = commands.Loop 0 disturbed
bare (commands.Demo number) = commands.Demo 0
bare command = command

abbrev count_in : Command → ℕ
count_in (commands.Loop turns disturbed) = turns
count_in (commands.Demo number) = number
count_in command = 0

abbrev with_count : Command → ℕ → Command
with_count (commands.Loop turns disturbed) n = commands.Loop n disturbed
with_count (commands.Demo number) n = commands.Demo n
with_count command n = command

rebuilt : (command : Command) → with_count (bare command) (count_in command) ≡ command
rebuilt (commands.Demo number) = refl
rebuilt command = refl

-- ---- the name and the number of arguments tell it
abbrev mark : List ℕ → ℕ
mark (one ∷ two ∷ rest) = 256 * one + two
mark letters = 0

-- by the first two letters of the name, and by how many arguments there are
abbrev marked : ℕ → ℕ → Command
marked m count =
    if nat_eq m (mark (codes "generate")) then commands.Generate else (if nat_eq m (mark (codes "solve")) then commands.Solve else
    (if nat_eq m (mark (codes "loop")) then commands.Loop 0 (nat_eq count 6) else (if nat_eq m (mark (codes "list")) then commands.List else
    (if nat_eq m (mark (codes "stay")) then commands.Stay (nat_eq count 7) else (if nat_eq m (mark (codes "play")) then commands.Play else
    (if nat_eq m (mark (codes "lean")) then (if nat_eq count 6 then commands.Lean else commands.LeanStay (nat_eq count 8)) else (if nat_eq m (mark (codes "split")) then commands.Split else
    (if nat_eq m (mark (codes "serve")) then (if nat_eq count 3 then commands.Serve else commands.Settle (nat_eq count 5)) else (if nat_eq m (mark (codes "c")) then commands.C else commands.Demo 0)))))))))

-- arguments with this name, so many
of_name : (words : List (List ℕ)) (name : List ℕ) (count : ℕ) → word_of words 0 ≡ name → length words ≡ count →
    marked (mark (word_of words 0)) (length words) ≡ marked (mark name) count
of_name words name count named counted = ap (λ (w : List ℕ). marked (mark w) (length words)) named ∙ ap (marked (mark name)) counted

named : (command : Command) (words : List (List ℕ)) → AreOf command words → marked (mark (word_of words 0)) (length words) ≡ bare command
named commands.Generate words is = of_name words (codes "generate") 5 is.command is.count
named commands.Solve words is = of_name words (codes "solve") 3 is.command is.count
named (commands.Loop turns true) words is = of_name words (codes "loop") 6 is.command is.count
named (commands.Loop turns false) words is = of_name words (codes "loop") 5 is.command is.count
named (commands.Demo number) words is = of_name words (codes "demo") 2 is.command is.count
named commands.List words is = of_name words (codes "list") 3 is.command is.count
named (commands.Stay true) words is = of_name words (codes "stay") 7 is.command is.count
named (commands.Stay false) words is = of_name words (codes "stay") 6 is.command is.count
named commands.Play words is = of_name words (codes "play") 3 is.command is.count
named commands.Lean words is = of_name words (codes "lean") 6 is.command is.count
named (commands.LeanStay true) words is = of_name words (codes "lean") 8 is.command is.count
named (commands.LeanStay false) words is = of_name words (codes "lean") 7 is.command is.count
named commands.Split words is = of_name words (codes "split") 6 is.command is.count
named commands.Serve words is = of_name words (codes "serve") 3 is.command is.count
named commands.C words is = of_name words (codes "c") 5 is.command is.count
named (commands.Settle true) words is = of_name words (codes "settle") 5 is.command is.count
named (commands.Settle false) words is = of_name words (codes "settle") 4 is.command is.count

-- ---- a word tells the number
abbrev IsNumber : Command → List (List ℕ) → ℕ → Type 0
IsNumber (commands.Loop turns disturbed) words n = IsCount 1000000 (word_of words 4) n
IsNumber (commands.Demo number) words n = IsCount 4294967295 (word_of words 1) n
IsNumber other words n = n ≡ 0

counted : (command : Command) (words : List (List ℕ)) → AreOf command words → IsNumber (bare command) words (count_in command)
counted (commands.Loop turns disturbed) words is = is.last
counted (commands.Demo number) words is = is.last
counted command words is = refl

one_count : (most : ℕ) (word : List ℕ) (a b : ℕ) → most < 2 ^ 63 → IsCount most word a → IsCount most word b → a ≡ b
one_count most word a b small x y =
    let same : pos a ≡ pos b = signed_decimal_injective (pos a) (pos b) (omega (arith, x.limit, small)) (omega (arith, y.limit, small)) (sym x.digits ∙ y.digits) in
    cc

one_number : (command : Command) (words : List (List ℕ)) (a b : ℕ) → IsNumber command words a → IsNumber command words b → a ≡ b
one_number (commands.Loop turns disturbed) words a b x y = one_count 1000000 (word_of words 4) a b (omega arith) x y
one_number (commands.Demo number) words a b x y = one_count 4294967295 (word_of words 1) a b (omega arith) x y
one_number other words a b x y = x ∙ sym y

-- ---- so the arguments tell the command
pub one_command : (words : List (List ℕ)) (command other : Command) → AreOf command words → AreOf other words → command ≡ other
one_command words command other is that =
    let same : bare command ≡ bare other = sym (named command words is) ∙ named other words that in
    let counts : count_in command ≡ count_in other =
    one_number (bare other) words (count_in command) (count_in other) (subst (λ (c : Command). IsNumber c words (count_in command)) same (counted command words is)) (counted other words that) in
    sym (rebuilt command) ∙ ap (λ (c : Command). with_count c (count_in command)) same ∙ ap (with_count (bare other)) counts ∙ rebuilt other

-- what holds of the command that the arguments are those of holds of each that they are those of
pub for_each : (words : List (List ℕ)) (command : Command) → AreOf command words → (P : Command → Type 0) → P command → (other : Command) → AreOf other words → P other
for_each words command is P h other that = subst P (one_command words command other is that) h
