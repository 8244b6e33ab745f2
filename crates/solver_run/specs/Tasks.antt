-- The words of the command line, and what they ask for.
use Rattle.std.specs.Prelude.{◌≡◌, ℕ, List, [], ◌∷◌, codes, Option, Some, None}
use Rattle.certificates.specs.Parts.Entries.{IsNumber}
use Rattle.frame.specs.declared.comparison.Comparison.{Comparison}
use Rattle.frame.specs.declared.comparison.Comparison.TheVariants as comparison
use Rattle.solver_run.specs.declared.words.Command.{Command}
use Rattle.solver_run.specs.declared.words.Command.TheVariants as command

pub data Task : Type 0 where
  -- the least model of the clauses in a file
  solve : (file : List ℕ) → Task
  -- the same, and where there is none a derivation in another file
  certify : (file out : List ℕ) → Task
  -- whether the certificate in a file is right for the clauses in another
  check : (file certificate : List ℕ) → Task
  -- a packet that the lists in two files decide as is asked, or that there is none
  compare : (asked : Comparison) (first second : List ℕ) → Task
  -- how many nodes a circuit of so many gates has
  gates : (count : ℕ) → Task

abbrev pub task_of : Command → Task
task_of (command.Solve file) = solve file.now
task_of (command.Certify file out) = certify file.now out.now
task_of (command.Check file certificate) = check file.now certificate.now
task_of (command.Compare asked first second) = compare asked first.now second.now
task_of (command.Gates count) = gates count

-- the word for what is asked of two lists
abbrev pub asked_word : Comparison → List ℕ
asked_word comparison.Differs = codes "differ"
asked_word comparison.Widens = codes "widen"

-- the words ask for this
abbrev pub IsForm : List (List ℕ) → Task → Type 0
IsForm words (solve file) = words ≡ codes "solve" ∷ file ∷ []
IsForm words (certify file out) = words ≡ codes "solve" ∷ file ∷ codes "--certificate" ∷ out ∷ []
IsForm words (check file certificate) = words ≡ codes "check" ∷ file ∷ certificate ∷ []
IsForm words (compare asked first second) = words ≡ codes "lists" ∷ asked_word asked ∷ first ∷ second ∷ []
IsForm words (gates count) = (word : List ℕ) × IsNumber word count × (words ≡ codes "gates" ∷ word ∷ [])

-- the file of the clauses
abbrev pub file_of : Task → Option (List ℕ)
file_of (solve file) = Some file
file_of (certify file out) = Some file
file_of (check file certificate) = Some file
file_of (compare asked first second) = None
file_of (gates count) = None

-- the file of the clauses that are searched for a model
abbrev pub searched : Task → Option (List ℕ)
searched (check file certificate) = None
searched task = file_of task

-- the names of the files that are read, in order
abbrev pub reads_of : Task → List (List ℕ)
reads_of (solve file) = file ∷ []
reads_of (certify file out) = file ∷ []
reads_of (check file certificate) = file ∷ certificate ∷ []
reads_of (compare asked first second) = first ∷ second ∷ []
reads_of (gates count) = []
