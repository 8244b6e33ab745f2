-- Each configuration is read, or has a banner without an end.
use Rattle.std.proofs.Common.{◌≡◌, ℕ, zero, suc, ◌+◌, ◌≤◌, ◌==◌, ◌⊎◌, Bool, true, false, List, [], ◌∷◌, ◌++◌, length, drop, codes, inl, inr, refl, ap, ⊎_elim, arith, length-append}
use Rattle.std.specs.List.{before_first, starts_with}
use Rattle.std.specs.Str.{bytes_eq}
use Rattle.std.proofs.lemmas.Bool.{cases_lt}
use Rattle.std.proofs.lemmas.Bool.Decides.{Decides-eqb}
use Rattle.std.proofs.lemmas.Slice.Eq.{starts_is, bytes_eq-Decides}
use Rattle.ios_lex.specs.Words.{is_gap, from_next_word}
use Rattle.ios_lex.specs.Banner.{Opens, Occurs, IsNowhere, EndsWith, IsOpen, delimiter_of, behind_delimiter}
use Rattle.ios_lex.specs.Lines.{Reading, IsPart, plain, banner, AreLines, end, part, IsUnclosed, here, later, outside, inside}
use Rattle.ios_lex.proofs.BannerLines.{banner_at_once, banner_later}
use Rattle.ios_lex.proofs.OpenedTexts.{opens_named, opens_third, opens_next}

begins_or_not : (delimiter text : List ℕ) → ((back : List ℕ) × (text ≡ delimiter ++ back)) ⊎ ((back : List ℕ) → text ≡ delimiter ++ back → ⊥)
begins_or_not delimiter text = decide (starts_with ◌==◌ text delimiter) refl
  where
    decide : (b : Bool) → b ≡ starts_with ◌==◌ text delimiter → ((back : List ℕ) × (text ≡ delimiter ++ back)) ⊎ ((back : List ℕ) → text ≡ delimiter ++ back → ⊥)
    decide true is = inl (drop (length delimiter) text, (starts_is Decides-eqb text delimiter true is).0 refl)
    decide false is =
        inr (λ back whole.
        let both : false ≡ true = (starts_is Decides-eqb text delimiter false is).1 back whole in
        cc)

no_occurrence : (delimiter text : List ℕ) → ((back : List ℕ) → text ≡ delimiter ++ back → ⊥) → ((x : ℕ) (rest : List ℕ) → text ≡ x ∷ rest → Occurs delimiter rest → ⊥) → (front back : List ℕ) → text ≡ front ++ (delimiter ++ back) → ⊥
no_occurrence delimiter text none behind [] back whole = none back whole
no_occurrence delimiter text none behind (x ∷ front) back whole = behind x (front ++ (delimiter ++ back)) whole (front, back, refl)

occurs_or_not : (delimiter text : List ℕ) → Occurs delimiter text ⊎ (Occurs delimiter text → ⊥)
occurs_or_not delimiter [] = ⊎_elim found none (begins_or_not delimiter [])
  where
    found : (back : List ℕ) × ([] ≡ delimiter ++ back) → Occurs delimiter [] ⊎ (Occurs delimiter [] → ⊥)
    found begins = inl ([], begins.0, begins.1)

    none : ((back : List ℕ) → [] ≡ delimiter ++ back → ⊥) → Occurs delimiter [] ⊎ (Occurs delimiter [] → ⊥)
    none begins = inr (λ o. no_occurrence delimiter [] begins (λ x rest whole _. cc) o.0 o.1 o.2)
occurs_or_not delimiter (x ∷ xs) = ⊎_elim found (none (occurs_or_not delimiter xs)) (begins_or_not delimiter (x ∷ xs))
  where
    found : (back : List ℕ) × (x ∷ xs ≡ delimiter ++ back) → Occurs delimiter (x ∷ xs) ⊎ (Occurs delimiter (x ∷ xs) → ⊥)
    found begins = inl ([], begins.0, begins.1)

    none : Occurs delimiter xs ⊎ (Occurs delimiter xs → ⊥) → ((back : List ℕ) → x ∷ xs ≡ delimiter ++ back → ⊥) → Occurs delimiter (x ∷ xs) ⊎ (Occurs delimiter (x ∷ xs) → ⊥)
    none rest_occurs begins = ⊎_elim later_found later_none rest_occurs
      where
        later_found : Occurs delimiter xs → Occurs delimiter (x ∷ xs) ⊎ (Occurs delimiter (x ∷ xs) → ⊥)
        later_found o = inl (x ∷ o.0, o.1, ap (λ more. x ∷ more) o.2)

        later_none : (Occurs delimiter xs → ⊥) → Occurs delimiter (x ∷ xs) ⊎ (Occurs delimiter (x ∷ xs) → ⊥)
        later_none never =
            inr (λ o. no_occurrence delimiter (x ∷ xs) begins
            (λ y rest whole behind.
            let same : rest ≡ xs = cc in
            never (rw same at behind)) o.0 o.1 o.2)

opens_or_not : (line : List ℕ) → ((text : List ℕ) × Opens line text) ⊎ ((text : List ℕ) → Opens line text → ⊥)
opens_or_not line = decide (bytes_eq (before_first is_gap line) (codes "banner")) refl
  where
    decide : (b : Bool) → b ≡ bytes_eq (before_first is_gap line) (codes "banner") → ((text : List ℕ) × Opens line text) ⊎ ((text : List ℕ) → Opens line text → ⊥)
    decide true is =
        let named : before_first is_gap line ≡ codes "banner" = (bytes_eq-Decides (before_first is_gap line) (codes "banner")).0 (cc) in
        ⊎_elim (λ some. inl (from_next_word (from_next_word line), opens_next line named some))
        (λ empty. inr (λ text opens. omega (arith, empty, ap length (opens_third line text opens), opens.some)))
        (cases_lt 0 (length (from_next_word (from_next_word line))))
    decide false is =
        inr (λ text opens.
        let equal : bytes_eq (before_first is_gap line) (codes "banner") ≡ true = (bytes_eq-Decides (before_first is_gap line) (codes "banner")).1 (opens_named line text opens) in
        cc)

-- the first of the texts in which the delimiter occurs, if there is one
record Ends (delimiter : List ℕ) (texts : List (List ℕ)) : Type 0 where
  body : List (List ℕ)
  left : List (List ℕ)
  whole : texts ≡ body ++ left
  ends : EndsWith delimiter body

ends_or_not : (delimiter : List ℕ) (texts : List (List ℕ)) → Ends delimiter texts ⊎ IsNowhere delimiter texts
ends_or_not delimiter [] = inr tt
ends_or_not delimiter (t ∷ ts) = ⊎_elim here_found (here_none (ends_or_not delimiter ts)) (occurs_or_not delimiter t)
  where
    here_found : Occurs delimiter t → Ends delimiter (t ∷ ts) ⊎ IsNowhere delimiter (t ∷ ts)
    here_found o = inl (record { body = t ∷ []; left = ts; whole = refl; ends = record { front = []; last = t; whole = refl; before = tt; occurs = o } })

    here_none : Ends delimiter ts ⊎ IsNowhere delimiter ts → (Occurs delimiter t → ⊥) → Ends delimiter (t ∷ ts) ⊎ IsNowhere delimiter (t ∷ ts)
    here_none behind_ends none = ⊎_elim behind_found (λ nowhere. inr (none, nowhere)) behind_ends
      where
        behind_found : Ends delimiter ts → Ends delimiter (t ∷ ts) ⊎ IsNowhere delimiter (t ∷ ts)
        behind_found e =
            inl (record {
              body = t ∷ e.body;
              left = e.left;
              whole = ap (λ more. t ∷ more) e.whole;
              ends = record {
                front = t ∷ e.ends.front;
                last = e.ends.last;
                whole = ap (λ more. t ∷ more) e.ends.whole;
                before = (none, e.ends.before);
                occurs = e.ends.occurs;
              };
            })

-- the first part of some lines, or a banner without an end
record First (number : ℕ) (line : List ℕ) (behind : List (List ℕ)) : Type 0 where
  gives : List Reading
  next : ℕ
  left : List (List ℕ)
  is_part : IsPart number (line ∷ behind) gives next left
  fewer : length left ≤ length behind

first_or_open : (number : ℕ) (line : List ℕ) (behind : List (List ℕ)) → First number line behind ⊎ IsOpen line behind
first_or_open number line behind = ⊎_elim opened unopened (opens_or_not line)
  where
    unopened : ((text : List ℕ) → Opens line text → ⊥) → First number line behind ⊎ IsOpen line behind
    unopened none = inl (record { gives = outside number line; next = number + 1; left = behind; is_part = plain line refl none refl refl; fewer = omega arith })

    opened : (text : List ℕ) × Opens line text → First number line behind ⊎ IsOpen line behind
    opened o = ⊎_elim at_once not_at_once (occurs_or_not (delimiter_of o.0) (behind_delimiter o.0))
      where
        at_once : Occurs (delimiter_of o.0) (behind_delimiter o.0) → First number line behind ⊎ IsOpen line behind
        at_once found =
            inl (record {
              gives = inside number (line ∷ []);
              next = number + 1;
              left = behind;
              is_part = banner line [] refl (banner_at_once line o.0 o.1 found) refl (omega arith);
              fewer = omega arith;
            })

        not_at_once : (Occurs (delimiter_of o.0) (behind_delimiter o.0) → ⊥) → First number line behind ⊎ IsOpen line behind
        not_at_once none = ⊎_elim later_found (λ nowhere. inr (record { text = o.0; opens = o.1; open_ended = (none, nowhere) })) (ends_or_not (delimiter_of o.0) behind)
          where
            later_found : Ends (delimiter_of o.0) behind → First number line behind ⊎ IsOpen line behind
            later_found e =
                inl (record {
                  gives = inside number (line ∷ e.body);
                  next = number + 1 + length e.body;
                  left = e.left;
                  is_part = banner line e.body (ap (λ more. line ∷ more) e.whole)
                      (banner_later line o.0 e.body o.1 none e.ends)
                      refl
                      refl;
                  fewer = omega (arith, ap length e.whole, length-append {A = List ℕ} e.body e.left);
                })

goes_on : (number : ℕ) (line : List ℕ) (behind : List (List ℕ)) (f : First number line behind) → ((answer : List Reading) × AreLines f.next f.left answer) ⊎ ((at : ℕ) × IsUnclosed f.next f.left at) → ((answer : List Reading) × AreLines number (line ∷ behind) answer) ⊎ ((at : ℕ) × IsUnclosed number (line ∷ behind) at)
goes_on number line behind f rest =
    ⊎_elim (λ more. inl (f.gives ++ more.0, part number (line ∷ behind) f.gives f.next f.left more.0 f.is_part more.1))
    (λ unclosed. inr (unclosed.0, later number (line ∷ behind) f.gives f.next f.left unclosed.0 f.is_part unclosed.1))
    rest

each_within : (most number : ℕ) (lines : List (List ℕ)) → length lines ≤ most → ((answer : List Reading) × AreLines number lines answer) ⊎ ((at : ℕ) × IsUnclosed number lines at)
each_within most number [] few = inl ([], end number)
each_within zero number (line ∷ behind) few = absurd (omega arith)
each_within (suc most) number (line ∷ behind) few =
    ⊎_elim (λ f. goes_on number line behind f (each_within most f.next f.left (omega (arith, f.fewer)))) (λ unended. inr (number, here number line behind unended)) (first_or_open number line behind)

pub each_reading : (number : ℕ) (lines : List (List ℕ)) → ((answer : List Reading) × AreLines number lines answer) ⊎ ((at : ℕ) × IsUnclosed number lines at)
each_reading number lines = each_within (length lines) number lines (omega arith)
