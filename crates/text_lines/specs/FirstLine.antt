-- The first line at which bytes are no text of some form.
use Rattle.std.specs.Prelude.{◌≡◌, ◌≢◌, ℕ, ◌≤◌, ◌<◌, List, ◌++◌, length, All}
use Rattle.number_text.specs.Lines.{text_of}

-- a line has no line feed in it
abbrev pub IsOneLine : List ℕ → Type 0
IsOneLine line = All (λ b. b ≢ 10) line

-- the bytes begin with so many lines, each with its line feed, and some text in form begins with these
pub record BeginsInForm (Form : List ℕ → Type 0) (bytes : List ℕ) (k : ℕ) : Type 0 where
  pub lines : List (List ℕ)
  pub count : length lines ≡ k
  pub each : All IsOneLine lines
  pub rest : List ℕ
  pub split : bytes ≡ text_of lines ++ rest
  pub more : List ℕ
  pub form : Form (text_of lines ++ more)

-- line l, from 1, is the first with which no text in form begins: some text in form begins with all lines before it, and none with it too
pub record IsFirstLineOf (Form : List ℕ → Type 0) (bytes : List ℕ) (l : ℕ) : Type 0 where
  pub low : 1 ≤ l
  pub before : (k : ℕ) → k < l → BeginsInForm Form bytes k
  pub here : ¬ BeginsInForm Form bytes l

-- the bytes are no text in form, and this is the first line at which they aren't
pub record IsBadLineOf (Form : List ℕ → Type 0) (bytes : List ℕ) (l : ℕ) : Type 0 where
  pub none : ¬ Form bytes
  pub first : IsFirstLineOf Form bytes l
