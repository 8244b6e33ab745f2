-- A script is read again as it is written, a statement a line.
use Rattle.std.proofs.Common.{◌≡◌, ℕ, ◌+◌, ◌<◌, List, [], ◌∷◌, ◌++◌, map, Option, Some, None, All, refl, sym, ap, subst, arith}
use Rattle.std.proofs.lemmas.List.Elements.{All-nil, All-cons}
use Rattle.query_tokens.specs.declared.token.Placed.{Placed}
use Rattle.query_tokens.specs.declared.token.Sign.TheVariants as sign_of
use Rattle.query_tokens.specs.declared.token.Token.{Token}
use Rattle.query_tokens.specs.declared.token.Token.TheVariants as token
use Rattle.query_tokens.specs.Writing.{IsWritable, tokens_of_lines}
use Rattle.query_tokens.proofs.WrittenLines.{lines_are, read_are_writable}
use Rattle.query_lang.specs.declared.script.Kind.{Kind}
use Rattle.query_lang.specs.declared.script.Kind.TheVariants as kind
use Rattle.query_lang.specs.declared.script.Script.{Script}
use Rattle.query_lang.specs.declared.script.Statement.{Statement}
use Rattle.query_lang.specs.Words.{Tokens, on, sign}
use Rattle.query_lang.specs.Readings.{Reads}
use Rattle.query_lang.specs.Scripts.{AreStatements, IsOffLine, MayAsk}
use Rattle.query_lang.specs.Statements.{IsAsk, IsExplore, IsCommand}
use Rattle.query_lang.specs.Writing.{kinds, line_of, numbered, renumbered, script_text, statement}
use Rattle.query_lang.proofs.ReadAgain.{laid, both_laid, Spelt, Known, known, behind, none_written, sign_written, both_written, strict}
use Rattle.query_lang.proofs.StatementsAgain.{ask_again, explore_again, command_again}

-- A statement begins with a word.

record Begins (what : Kind) : Type 0 where
  first : Token
  others : List Token
  whole : statement what ≡ first ∷ others

begins : (what : Kind) → Begins what
begins (kind.LoadVocab file) = record { first = _; others = _; whole = refl }
begins (kind.LoadPolicy file) = record { first = _; others = _; whole = refl }
begins (kind.LoadIos file text) = record { first = _; others = _; whole = refl }
begins (kind.LoadIptables file text) = record { first = _; others = _; whole = refl }
begins (kind.Explore what) = record { first = _; others = _; whole = refl }
begins kind.IsPossible = record { first = _; others = _; whole = refl }
begins kind.ShowOne = record { first = _; others = _; whole = refl }
begins (kind.ShowFirst n) = record { first = _; others = _; whole = refl }
begins kind.ShowAll = record { first = _; others = _; whole = refl }
begins kind.ShowFull = record { first = _; others = _; whole = refl }
begins (kind.ShowUpTo n) = record { first = _; others = _; whole = refl }
begins kind.ShowRealized = record { first = _; others = _; whole = refl }
begins kind.ShowUnrealized = record { first = _; others = _; whole = refl }
begins kind.ShowBounds = record { first = _; others = _; whole = refl }
begins kind.ShowProof = record { first = _; others = _; whole = refl }
begins (kind.Compare left right) = record { first = _; others = _; whole = refl }
begins (kind.Decide list packet) = record { first = _; others = _; whole = refl }
begins (kind.Generate n seed text) = record { first = _; others = _; whole = refl }
begins (kind.Link from from_interface to to_interface) = record { first = _; others = _; whole = refl }
begins (kind.Paths from from_interface to to_interface within) = record { first = _; others = _; whole = refl }
begins (kind.Audit list) = record { first = _; others = _; whole = refl }
begins (kind.Core list verdict tests) = record { first = _; others = _; whole = refl }

-- Statements at their places.

abbrev numbered_kind : ℕ → Kind → Statement
numbered_kind line what = record { line = line; kind = what }

semicolon_laid : (P : Tokens → Type 0) (line : ℕ) (what : Kind) (rest : Tokens) → P (laid line (statement what) (sign line sign_of.Semicolon ∷ rest)) → P (laid line (line_of what) rest)
semicolon_laid P line what rest p = both_laid P line (statement what) (token.Sign sign_of.Semicolon ∷ []) rest p

-- what begins with any token, and is such a statement, stands before others
stated : (what : Kind) (Is : Tokens → Tokens → Type 0) (line : ℕ) (explored : Option ℕ) (statements : List Statement) (rest : Tokens) → Spelt Is (statement what)
    → ((first : Placed) (ts : Tokens) → Is (first ∷ ts) (sign line sign_of.Semicolon ∷ rest) → first.line ≡ line → AreStatements strict explored (numbered_kind line what ∷ statements) (first ∷ ts))
    → AreStatements strict explored (numbered_kind line what ∷ statements) (laid line (line_of what) rest)
stated what Is line explored statements rest s build =
    let b = begins what in
    let back : Tokens = sign line sign_of.Semicolon ∷ rest in
    let is : Is (on line b.first ∷ laid line b.others back) back = subst (λ (ts : List Token). Is (laid line ts back) back) b.whole (s.reads line back) in
    semicolon_laid (λ (l : Tokens). AreStatements strict explored (numbered_kind line what ∷ statements) l) line what rest
    (subst (λ (ts : List Token). AreStatements strict explored (numbered_kind line what ∷ statements) (laid line ts back)) (sym b.whole)
    (build (on line b.first) (laid line b.others back) is refl))

line_written : (what : Kind) → All IsWritable (statement what) → All IsWritable (line_of what)
line_written what all = both_written (statement what) (token.Sign sign_of.Semicolon ∷ []) all (sign_written sign_of.Semicolon [] none_written)

-- Lines of tokens.

laid_line : (line : ℕ) (ts : List Token) (rest : Tokens) → laid line ts rest ≡ map (λ (t : Token). on line t) ts ++ rest
laid_line line [] rest = refl
laid_line line (t ∷ ts) rest = ap (λ (l : Tokens). on line t ∷ l) (laid_line line ts rest)

-- The whole script.

-- the line that the last EXPLORE began on is before this one
abbrev IsBefore : Option ℕ → ℕ → Type 0
IsBefore None line = Unit {0}
IsBefore (Some explored) line = explored < line

off_line : (explored : Option ℕ) (line : ℕ) → IsBefore explored line → IsOffLine explored line
off_line None line before = tt
off_line (Some explored) line before = λ same. omega (arith, before, same)

still_before : (explored : Option ℕ) (line : ℕ) → IsBefore explored line → IsBefore explored (line + 1)
still_before None line before = tt
still_before (Some explored) line before = omega (arith, before)

abbrev lines_of : List Statement → List (List Token)
lines_of statements = map line_of (map (λ one. one.kind) statements)

-- the statements stand on lines of their own, the first on this line
record AreAgain (explored : Option ℕ) (line : ℕ) (statements : List Statement) : Type 0 where
  are : AreStatements strict explored (numbered line (map (λ one. one.kind) statements)) (tokens_of_lines line (lines_of statements))
  writable : All (All IsWritable) (lines_of statements)

next : (explored : Option ℕ) (line : ℕ) (what : Kind) (others : List Statement) → All IsWritable (statement what)
    → All (All IsWritable) (lines_of others)
    → AreStatements strict explored (numbered_kind line what ∷ numbered (line + 1) (map (λ one. one.kind) others)) (laid line (line_of what) (tokens_of_lines (line + 1) (lines_of others)))
    → (of : ℕ) → AreAgain explored line (numbered_kind of what ∷ others)
next explored line what others written all are of = record {
  are =
      subst (λ (l : Tokens). AreStatements strict explored (numbered_kind line what ∷ numbered (line + 1) (map (λ one. one.kind) others)) l) (laid_line line (line_of what) (tokens_of_lines (line + 1) (lines_of others))) are;
  writable = All-cons (All IsWritable) (line_of what) (lines_of others) (line_written what written) all;
}

statements_again : (old new : Option ℕ) (line : ℕ) (statements : List Statement) (ts : Tokens) → (MayAsk strict old → MayAsk strict new) → IsBefore new line → AreStatements strict old statements ts → Known ts
    → AreAgain new line statements
statements_again old new line statements ts may before (AreStatements.none _) known = record { are = AreStatements.none new; writable = All-nil (All IsWritable) }
statements_again old new line statements ts may before (AreStatements.ask _ at what first others tokens rest asks is more) known =
    let a = ask_again what (first ∷ tokens) (sign at sign_of.Semicolon ∷ rest) is known in
    let b = statements_again old new (line + 1) others rest may (still_before new line before) more (behind a.behind) in
    next new line what others a.is.writable b.writable
    (stated what (IsAsk what) line new (numbered (line + 1) (map (λ one. one.kind) others)) (tokens_of_lines (line + 1) (lines_of others)) a.is
    (λ one back is same. subst (λ (n : ℕ). AreStatements strict new (numbered_kind n what ∷ numbered (line + 1) (map (λ one. one.kind) others)) (one ∷ back)) same
    (AreStatements.ask new line what one (numbered (line + 1) (map (λ one. one.kind) others)) back (tokens_of_lines (line + 1) (lines_of others)) (may asks) is b.are))) first.line
statements_again old new line statements ts may before (AreStatements.explore _ at what first others tokens rest off is more) known =
    let a = explore_again what (first ∷ tokens) (sign at sign_of.Semicolon ∷ rest) is known in
    let b = statements_again (Some first.line) (Some line) (line + 1) others rest (λ _. tt) (omega arith) more (behind a.behind) in
    next new line (kind.Explore what) others a.is.writable b.writable
    (stated (kind.Explore what) (IsExplore strict what) line new (numbered (line + 1) (map (λ one. one.kind) others)) (tokens_of_lines (line + 1) (lines_of others)) a.is
    (λ one back is same. subst (λ (n : ℕ). AreStatements strict new (numbered_kind n (kind.Explore what) ∷ numbered (line + 1) (map (λ one. one.kind) others)) (one ∷ back)) same
    (AreStatements.explore new line what one (numbered (line + 1) (map (λ one. one.kind) others)) back (tokens_of_lines (line + 1) (lines_of others))
    (subst (λ (n : ℕ). IsOffLine new n) (sym same) (off_line new line before)) is
    (subst (λ (n : ℕ). AreStatements strict (Some n) (numbered (line + 1) (map (λ one. one.kind) others)) (tokens_of_lines (line + 1) (lines_of others))) (sym same) b.are)))) first.line
statements_again old new line statements ts may before (AreStatements.command _ at what first others tokens rest is more) known =
    let a = command_again what (first ∷ tokens) (sign at sign_of.Semicolon ∷ rest) is known in
    let b = statements_again old new (line + 1) others rest may (still_before new line before) more (behind a.behind) in
    next new line what others a.is.writable b.writable
    (stated what (IsCommand what) line new (numbered (line + 1) (map (λ one. one.kind) others)) (tokens_of_lines (line + 1) (lines_of others)) a.is
    (λ one back is same. subst (λ (n : ℕ). AreStatements strict new (numbered_kind n what ∷ numbered (line + 1) (map (λ one. one.kind) others)) (one ∷ back)) same
    (AreStatements.command new line what one (numbered (line + 1) (map (λ one. one.kind) others)) back (tokens_of_lines (line + 1) (lines_of others)) is b.are))) first.line

-- what some bytes are read as is written so that it is read again
written_is_read : (bytes : List ℕ) (script : Script) → Reads bytes script → Reads (script_text (kinds script)) (renumbered script)
written_is_read bytes script r =
    let a = statements_again None None 1 script.statements r.tokens (λ may. may) tt r.is (known r.tokens (read_are_writable 1 bytes r.tokens r.cut)) in
    record { tokens = tokens_of_lines 1 (lines_of script.statements); cut = lines_are 1 (lines_of script.statements) a.writable; is = a.are }

-- so is each script of the same kinds
pub read_back : (script : Script) (text : List ℕ) → text ≡ script_text (kinds script) → (bytes : List ℕ) (other : Script) → Reads bytes other → kinds other ≡ kinds script → Reads text (renumbered script)
read_back script text e bytes other r same =
    let written = subst (λ (k : List Kind). Reads (script_text k) (record { statements = numbered 1 k })) same (written_is_read bytes other r) in
    subst (λ (t : List ℕ). Reads t (renumbered script)) (sym e) written
