-- What a file holds is one thing.
use Rattle.std.proofs.Common.{◌≡◌, ◌∙◌, ℕ, List, Option, Some, Ok, sym, subst}
use Rattle.mat_int.specs.Matrix.{Matrix}
use Rattle.policy_file.proofs.UniqueFacts.{states_told}
use Rattle.command_line.specs.Limit.{file_limit}
use Rattle.command_line.specs.Answers.{FileHolds}
use Rattle.command_files.specs.Texts.{StatesRight}

pub one_content : {R T : List ℕ → Type 0} (limit other : ℕ) (content : Option (List ℕ)) → (x : FileHolds limit R content) → (y : FileHolds other T content) → y.bytes ≡ x.bytes
one_content limit other content x y = (let same : Some y.bytes ≡ Some x.bytes = sym y.held ∙ x.held in cc)

pub one_states : (n : ℕ) (content : Option (List ℕ)) (a b : Matrix) → FileHolds file_limit (StatesRight n a) content → FileHolds file_limit (StatesRight n b) content → a ≡ b
one_states n content a b x y = (states_told x.bytes n (Ok a) x.right tt).0 b (subst (λ (bytes : List ℕ). StatesRight n b bytes) (one_content file_limit file_limit content x y) y.right)
