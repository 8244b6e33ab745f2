-- Each list is what its own lines make of it.
use Rattle.std.proofs.Common.{◌≡◌, ℕ, Bool, true, false, List, [], ◌∷◌, Some, Contains, codes, slice_get, refl, sym, ap, ◌∙◌}
use Rattle.std.specs.Str.{bytes_eq}
use Rattle.std.proofs.lemmas.Option.{slice_get-get_or}
use Rattle.std.proofs.lemmas.Slice.Eq.{bytes_eq-Decides}
use Rattle.ios_lex.specs.Lines.{AreLines, Reading}
use Rattle.ios_lex.specs.RawLines.{raw_lines}
use Rattle.ios_lex.proofs.OneReading.{lines_are_one}
use Rattle.ios_lex.specs.Phrases.{Words}
use Rattle.ios_lex.specs.declared.taken.Taken.{Taken}
use Rattle.ios_lex.proofs.DecimalTexts.{decimal_is_one}
use Rattle.ios_acl.specs.Block.{ReadsAll}
use Rattle.ios_acl.specs.List.{AccessList}
use Rattle.ios_acl.specs.Reading.{Reads as ReadsRule}
use Rattle.ios_lists.specs.Lists.{HaveDifferentNames, kind_named, list_named, with_list}
use Rattle.ios_lists.specs.Numbered.{ReadsNumbered}
use Rattle.ios_lists.specs.Rules.{ReadsInto}
use Rattle.ios_lists.proofs.BlockEntries.{reads_keeps}
use Rattle.ios_lists.proofs.DifferentNames.{first_of_name, names_with}
use Rattle.ios_lists.proofs.Places.{list_there, name_of_named}
use Rattle.ios_config.specs.Line.{FallsUnder, IsOfRule, Makes, Rule, Takes, rule_within}
use Rattle.ios_config.specs.OwnLines.{AllSaid, IsNumberOfKind, IsOfItsLines, SaysEntry}
use Rattle.ios_config.specs.Reading.{Reads, TakesAll}
use Rattle.ios_config.specs.Router.{Draft, OpenBlock, Router, no_lines}
use Rattle.ios_config.specs.declared.command.Command.TheVariants as commands
use Rattle.ios_config.proofs.LineRules.{fits, kind_not_foreign, open_behind}
use Rattle.ios_config.proofs.NamedLists.{Stays, apart_names, kind_there, kind_with, named_with, others_with, same_named}
use Rattle.ios_config.proofs.OneRule.{one_rule}

-- the rule of a line that says something of the list of this name
data IsOwnRule (name : List ℕ) (line : Reading) (words : Words) : Rule → Type 0 where
  by_name : words ≡ line.words → IsOwnRule name line words (Rule.entry name)
  by_number : IsNumberOfKind name → IsOwnRule name line words (Rule.command commands.NumberedList (name ∷ words))

own_rule : (name : List ℕ) (block : OpenBlock) (line : Reading) (words : Words) (rule : Rule) → FallsUnder block line rule → SaysEntry name block line words → IsOwnRule name line words rule
own_rule name block line words rule falls (SaysEntry.within within is) =
    let own : FallsUnder block line (rule_within block) = FallsUnder.within within in
    let entry : FallsUnder block line (Rule.entry name) = rw (ap rule_within is) at own in
    rw (one_rule block line rule (Rule.entry name) falls entry) (IsOwnRule.by_name refl)
own_rule name block line words rule falls (SaysEntry.numbered words' outside kind whole) =
    let entry : FallsUnder block line (Rule.command commands.NumberedList (name ∷ words)) =
    FallsUnder.outside (Rule.command commands.NumberedList (name ∷ words)) outside (IsOfRule.command commands.NumberedList (name ∷ words) whole) in
    rw (one_rule block line rule (Rule.command commands.NumberedList (name ∷ words)) falls entry) (IsOwnRule.by_number kind)

own_entry : (name other : List ℕ) (line : Reading) (words : Words) → IsOwnRule name line words (Rule.entry other) → name ≡ other
own_entry name other line words (IsOwnRule.by_name is) = refl

own_number : (name : List ℕ) (line : Reading) (words rest : Words) → IsOwnRule name line words (Rule.command commands.NumberedList rest) → (rest ≡ name ∷ words) × IsNumberOfKind name
own_number name line words rest (IsOwnRule.by_number kind) = (refl, kind)

-- the list of a name is of its kind, where there is one
abbrev pub Agrees : List AccessList → List ℕ → Bool → Type 0
Agrees lists name extended = (other : Bool) → kind_named lists name ≡ Some other → other ≡ extended

-- what a line does to the list of a name
data Does (name : List ℕ) (extended : Bool) (draft next : Draft) (line : Reading) : Type 0 where
  adds : (words : Words) → SaysEntry name draft.block line words
      → ReadsRule (list_named draft.lists name extended) words (list_named next.lists name extended) → Does name extended draft next line
  leaves : ((words : Words) → SaysEntry name draft.block line words → ⊥) → list_named next.lists name extended ≡ list_named draft.lists name extended
      → Does name extended draft next line

-- a list of this name and kind is put among the lists
record IsPut (old new : List AccessList) (name : List ℕ) (asked : Bool) (made : AccessList) : Type 0 where
  named : made.name ≡ name
  kind : made.extended ≡ (list_named old name asked).extended
  put : new ≡ with_list old made

read_put : (old new : List AccessList) (name : List ℕ) (asked : Bool) (words : Words) (into : ReadsInto old name asked words new) → IsPut old new name asked into.made
read_put old new name asked words into =
    let kept = reads_keeps (list_named old name asked) into.made words into.reads in
    record { named = kept.name ∙ name_of_named old name asked; kind = kept.kind; put = into.put }

-- the list of the name was of its kind, and becomes the one that is put
record Becomes (old new : List AccessList) (name : List ℕ) (asked extended : Bool) (made : AccessList) : Type 0 where
  was : list_named old name asked ≡ list_named old name extended
  is : list_named new name extended ≡ made

becomes : (old new : List AccessList) (name : List ℕ) (asked extended : Bool) (made : AccessList) → IsPut old new name asked made → Agrees new name extended
    → Becomes old new name asked extended made
becomes old new name asked extended made put agrees =
    let kind : kind_named new name ≡ Some made.extended = rw (put.put, ← put.named) (kind_with old made) in
    record {
      was = same_named old name asked extended (sym put.kind ∙ agrees made.extended kind);
      is = rw (put.put, ← put.named) (named_with old made extended);
    }

put_others : (old new : List AccessList) (name other : List ℕ) (asked extended : Bool) (made : AccessList) → IsPut old new other asked made → bytes_eq name other ≡ false
    → Stays old new name extended
put_others old new name other asked extended made put apart = rw put.put (others_with old made name extended (rw put.named apart))

-- a line that is read into the list of a name
into_does : (name : List ℕ) (extended : Bool) (draft next : Draft) (line : Reading) (other : List ℕ) (asked : Bool) (words : Words) → ReadsInto draft.lists other asked words next.lists
    → Agrees next.lists name extended → (name ≡ other → SaysEntry name draft.block line words) → ((said : Words) → SaysEntry name draft.block line said → name ≡ other)
    → Does name extended draft next line
into_does name extended draft next line other asked words into agrees says own = decide (bytes_eq name other) refl
  where
    put : IsPut draft.lists next.lists other asked into.made
    put = read_put draft.lists next.lists other asked words into

    decide : (b : Bool) → b ≡ bytes_eq name other → Does name extended draft next line
    decide true is =
        let same : name ≡ other = (bytes_eq-Decides name other).0 (sym is) in
        let now = becomes draft.lists next.lists name asked extended into.made (rw same put) agrees in
        let reads : ReadsRule (list_named draft.lists name asked) words into.made = rw same into.reads in
        Does.adds words (says same) (rw now.is (rw now.was at reads))
    decide false is =
        Does.leaves (λ said of. apart_names name other (sym is) (own said of)) (put_others draft.lists next.lists name other asked extended into.made put (sym is)).named

-- the head of a block
head_does : (name : List ℕ) (extended : Bool) (draft next : Draft) (line : Reading) (other : List ℕ) (asked : Bool)
    → next.lists ≡ with_list draft.lists (list_named draft.lists other asked) → Agrees next.lists name extended → ((said : Words) → SaysEntry name draft.block line said → ⊥)
    → Does name extended draft next line
head_does name extended draft next line other asked is agrees unsaid = decide (bytes_eq name other) refl
  where
    put : IsPut draft.lists next.lists other asked (list_named draft.lists other asked)
    put = record { named = name_of_named draft.lists other asked; kind = refl; put = is }

    decide : (b : Bool) → b ≡ bytes_eq name other → Does name extended draft next line
    decide true is =
        let same : name ≡ other = (bytes_eq-Decides name other).0 (sym is) in
        let own : IsPut draft.lists next.lists name asked (list_named draft.lists name asked) = rw same put in
        let now = becomes draft.lists next.lists name asked extended (list_named draft.lists name asked) own agrees in
        Does.leaves unsaid (now.is ∙ now.was)
    decide false is =
        Does.leaves unsaid (put_others draft.lists next.lists name other asked extended (list_named draft.lists other asked) put (sym is)).named

numbered_does : (name : List ℕ) (extended : Bool) (draft next : Draft) (line : Reading) (rest : Words) (what : Taken) → ReadsNumbered draft.lists rest next.lists what
    → FallsUnder draft.block line (Rule.command commands.NumberedList rest) → Agrees next.lists name extended → Does name extended draft next line
numbered_does name extended draft next line rest what (ReadsNumbered.modelled other asked words whole numbered begins into) falls agrees =
    let fit = fits draft.block line (Rule.command commands.NumberedList rest) falls in
    into_does name extended draft next line other asked words into agrees
    (λ same. SaysEntry.numbered words fit.0 (rw same (record { n = numbered.n; number = numbered.number; extended = asked; kind = numbered.kind }))
    (fit.1 ∙ ap (λ (more : Words). codes "access-list" ∷ more) (rw same whole)))
    (λ said says.
    let own = (own_number name line said rest (own_rule name draft.block line said (Rule.command commands.NumberedList rest) falls says)).0 in
    cc (sym own ∙ whole))
numbered_does name extended draft next line rest what (ReadsNumbered.foreign other n more whole number foreign same) falls agrees =
    Does.leaves
    (λ said says.
    let own = own_number name line said rest (own_rule name draft.block line said (Rule.command commands.NumberedList rest) falls says) in
    let named : name ≡ other = cc (sym own.0 ∙ whole) in
    let one : own.1.n ≡ n = decimal_is_one 10 other own.1.n n (rw (← named) own.1.number) number in
    kind_not_foreign n own.1.extended (rw (← one) own.1.kind) foreign)
    (ap (λ (lists : List AccessList). list_named lists name extended) same)

made_does : (name : List ℕ) (extended : Bool) (draft next : Draft) (line : Reading) (rule : Rule) → FallsUnder draft.block line rule → Makes draft line.number line.words rule next
    → Agrees next.lists name extended → Does name extended draft next line
made_does name extended draft next line rule falls Makes.ignored agrees = Does.leaves (λ words says. elim (own_rule name draft.block line words Rule.ignored falls says) [ ]) refl
made_does name extended draft next line rule falls (Makes.entry other lists reads) agrees =
    let fit = fits draft.block line (Rule.entry other) falls in
    into_does name extended draft next line other reads.extended line.words reads.reads agrees
    (λ same. SaysEntry.within fit.0 (rw same fit.1)) (λ said says. own_entry name other line said (own_rule name draft.block line said (Rule.entry other) falls says))
made_does name extended draft next line rule falls (Makes.setting other blocks taken reads) agrees =
    Does.leaves (λ words says. elim (own_rule name draft.block line words (Rule.setting other) falls says) [ ]) refl
made_does name extended draft next line rule falls (Makes.numbered rest lists what reads) agrees = numbered_does name extended draft next line rest what reads falls agrees
made_does name extended draft next line rule falls (Makes.list rest other asked head) agrees =
    head_does name extended draft next line other asked refl agrees (λ words says. elim (own_rule name draft.block line words (Rule.command commands.ListBlock rest) falls says) [ ])
made_does name extended draft next line rule falls (Makes.interface rest interfaces other heading begins) agrees =
    Does.leaves (λ words says. elim (own_rule name draft.block line words (Rule.command commands.InterfaceBlock rest) falls says) [ ]) refl
made_does name extended draft next line rule falls (Makes.route rest route is number) agrees =
    Does.leaves (λ words says. elim (own_rule name draft.block line words (Rule.command commands.Route rest) falls says) [ ]) refl
made_does name extended draft next line rule falls (Makes.pool rest table reads) agrees =
    Does.leaves (λ words says. elim (own_rule name draft.block line words (Rule.command commands.Pool rest) falls says) [ ]) refl
made_does name extended draft next line rule falls (Makes.source word rest table reads) agrees =
    Does.leaves (λ words says. elim (own_rule name draft.block line words (Rule.command commands.Source (word ∷ rest)) falls says) [ ]) refl
made_does name extended draft next line rule falls Makes.cut agrees =
    Does.leaves (λ words says. elim (own_rule name draft.block line words (Rule.command commands.Source []) falls says) [ ]) refl

-- a list that is there keeps its kind
put_kind : (old new : List AccessList) (name other : List ℕ) (asked : Bool) (made : AccessList) (kind : Bool) → IsPut old new other asked made → kind_named old name ≡ Some kind
    → kind_named new name ≡ Some kind
put_kind old new name other asked made kind put there = decide (bytes_eq name other) refl
  where
    decide : (b : Bool) → b ≡ bytes_eq name other → kind_named new name ≡ Some kind
    decide true is =
        let same : name ≡ other = (bytes_eq-Decides name other).0 (sym is) in
        let now : kind_named new other ≡ Some made.extended = rw (put.put, ← put.named) (kind_with old made) in
        let kept : made.extended ≡ kind = put.kind ∙ kind_there old other asked kind (rw (← same) there) in
        rw same (now ∙ ap Some kept)
    decide false is = (put_others old new name other asked asked made put (sym is)).kind ∙ there

kind_kept : (draft next : Draft) (line : Reading) (rule : Rule) (name : List ℕ) (kind : Bool) → Makes draft line.number line.words rule next → kind_named draft.lists name ≡ Some kind
    → kind_named next.lists name ≡ Some kind
kind_kept draft next line rule name kind Makes.ignored there = there
kind_kept draft next line rule name kind (Makes.entry other lists reads) there =
    put_kind draft.lists next.lists name other reads.extended reads.reads.made kind (read_put draft.lists next.lists other reads.extended line.words reads.reads) there
kind_kept draft next line rule name kind (Makes.setting other blocks taken reads) there = there
kind_kept draft next line rule name kind (Makes.numbered rest lists what (ReadsNumbered.modelled other asked words whole numbered begins into)) there =
    put_kind draft.lists next.lists name other asked into.made kind (read_put draft.lists next.lists other asked words into) there
kind_kept draft next line rule name kind (Makes.numbered rest lists what (ReadsNumbered.foreign other n more whole number foreign same)) there = rw same there
kind_kept draft next line rule name kind (Makes.list rest other asked head) there =
    put_kind draft.lists next.lists name other asked (list_named draft.lists other asked) kind (record { named = name_of_named draft.lists other asked; kind = refl; put = refl }) there
kind_kept draft next line rule name kind (Makes.interface rest interfaces other heading begins) there = there
kind_kept draft next line rule name kind (Makes.route rest route is number) there = there
kind_kept draft next line rule name kind (Makes.pool rest table reads) there = there
kind_kept draft next line rule name kind (Makes.source word rest table reads) there = there
kind_kept draft next line rule name kind Makes.cut there = there

-- what lines say of a list makes it of what it was
record Owns (name : List ℕ) (extended : Bool) (draft end : Draft) (lines : List Reading) : Type 0 where
  own : List Words
  said : AllSaid (SaysEntry name) draft.block lines own
  reads : ReadsAll (list_named draft.lists name extended) own (list_named end.lists name extended)
  agrees : Agrees draft.lists name extended

owns_more : (name : List ℕ) (extended : Bool) (draft next end : Draft) (line : Reading) (lines : List Reading) → Takes draft line next → Owns name extended next end lines
    → Does name extended draft next line → Owns name extended draft end (line ∷ lines)
owns_more name extended draft next end line lines takes more (Does.adds words says reads) = record {
  own = words ∷ more.own;
  said = AllSaid.said draft.block next.block line lines words more.own says (open_behind draft next line takes) more.said;
  reads = ReadsAll.line (list_named draft.lists name extended) (list_named next.lists name extended) (list_named end.lists name extended) words more.own reads more.reads;
  agrees = λ kind there. more.agrees kind (kind_kept draft next line takes.rule name kind takes.makes there);
}
owns_more name extended draft next end line lines takes more (Does.leaves unsaid same) = record {
  own = more.own;
  said = AllSaid.other draft.block next.block line lines more.own unsaid (open_behind draft next line takes) more.said;
  reads = rw same at more.reads;
  agrees = λ kind there. more.agrees kind (kind_kept draft next line takes.rule name kind takes.makes there);
}

own_entries : {draft end : Draft} {lines : List Reading} (name : List ℕ) (extended : Bool) → TakesAll draft lines end → Agrees end.lists name extended → Owns name extended draft end lines
own_entries name extended (TakesAll.end draft) agrees =
    record { own = []; said = AllSaid.end draft.block; reads = ReadsAll.end (list_named draft.lists name extended); agrees = agrees }
own_entries name extended (TakesAll.next draft next end line lines takes rest) agrees =
    let more = own_entries name extended rest agrees in
    owns_more name extended draft next end line lines takes more (made_does name extended draft next line takes.rule takes.falls takes.makes more.agrees)

-- no two lists have one name

made_differ : (draft next : Draft) (line : Reading) (rule : Rule) → Makes draft line.number line.words rule next → HaveDifferentNames draft.lists → HaveDifferentNames next.lists
made_differ draft next line rule Makes.ignored differ = differ
made_differ draft next line rule (Makes.entry other lists reads) differ = rw reads.reads.put (names_with draft.lists reads.reads.made differ)
made_differ draft next line rule (Makes.setting other blocks taken reads) differ = differ
made_differ draft next line rule (Makes.numbered rest lists what (ReadsNumbered.modelled other asked words whole numbered begins into)) differ =
    rw into.put (names_with draft.lists into.made differ)
made_differ draft next line rule (Makes.numbered rest lists what (ReadsNumbered.foreign other n more whole number foreign same)) differ = rw same differ
made_differ draft next line rule (Makes.list rest other asked head) differ = names_with draft.lists (list_named draft.lists other asked) differ
made_differ draft next line rule (Makes.interface rest interfaces other heading begins) differ = differ
made_differ draft next line rule (Makes.route rest route is number) differ = differ
made_differ draft next line rule (Makes.pool rest table reads) differ = differ
made_differ draft next line rule (Makes.source word rest table reads) differ = differ
made_differ draft next line rule Makes.cut differ = differ

all_differ : {draft end : Draft} {lines : List Reading} → TakesAll draft lines end → HaveDifferentNames draft.lists → HaveDifferentNames end.lists
all_differ (TakesAll.end draft) differ = differ
all_differ (TakesAll.next draft next end line lines takes rest) differ = all_differ rest (made_differ draft next line takes.rule takes.makes differ)

-- so a list of them is that of its name
record IsNamed (lists : List AccessList) (list : AccessList) : Type 0 where
  named : list_named lists list.name list.extended ≡ list
  agrees : Agrees lists list.name list.extended

is_named : (lists : List AccessList) (list : AccessList) → HaveDifferentNames lists → Contains lists list → IsNamed lists list
is_named lists list differ has =
    let there : slice_get lists has.0 ≡ Some list = slice_get-get_or lists has.0 list has.1 ∙ ap Some has.2 in
    let first = first_of_name lists has.0 list differ there in
    let named : list_named lists list.name list.extended ≡ list = list_there lists list.name list.extended has.0 list (sym first) there in
    record { named = named; agrees = λ other kind. sym (kind_there lists list.name list.extended other kind) ∙ ap (λ (l : AccessList). l.extended) named }

pub lists_are_own : (known : List (List ℕ)) (bytes : List ℕ) (router : Router) (readings : List Reading) (list : AccessList) → Reads known bytes router
    → AreLines 1 (raw_lines bytes) readings → Contains router.lists list → IsOfItsLines readings list
lists_are_own known bytes router readings list reads are has =
    let draft : Draft = reads.draft in
    let taken : TakesAll (no_lines known) readings draft = rw (lines_are_one reads.taken.are_lines are) at reads.taken.taken in
    let inside : Contains draft.lists list = rw reads.is at has in
    let named = is_named draft.lists list (all_differ taken tt) inside in
    let owns = own_entries list.name list.extended taken named.agrees in
    record { own = owns.own; said = owns.said; reads = rw named.named at owns.reads }
