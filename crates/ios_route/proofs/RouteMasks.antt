-- The prefix of a route and its mask, and where they stop.
use Rattle.std.proofs.Common.{◌≡◌, ◌↔◌, ℕ, Bool, true, false, List, [], ◌∷◌, length, refl, codes, arith}
use Rattle.ios_lex.specs.Address.{IsAddress}
use Rattle.ios_lex.specs.Decimal.{IsByte}
use Rattle.ios_lex.specs.declared.stop.Due.TheVariants as due
use Rattle.ios_lex.specs.declared.stop.Stop.{Stop}
use Rattle.ios_lex.specs.Following.{Begins}
use Rattle.ios_lex.specs.NextWords.{NoName}
use Rattle.ios_lex.specs.Phrases.{Words}
use Rattle.ios_lex.specs.Stops as specs
use Rattle.ios_lex.specs.Stops.{IsStop, LacksFirst, StopsBefore}
use Rattle.ios_lex.proofs.AddressParts.{address_is_one}
use Rattle.ios_lex.proofs.FirstStops.{expected, unexpected, lacks_none, lacks_word, stop_at_address}
use Rattle.ios_lex.proofs.Stopping.{stop_behind, stop_first}
use Rattle.ios_lex.proofs.WordForms.{no_number_address, zero_address}
use Rattle.ios_route.specs.RouteLines.{HasExit, IsMaskOf, IsRoute, Line}
use Rattle.ios_route.specs.RouteParts.{SomeExit, SomeMask}
use Rattle.ios_route.proofs.RouteExitWords.{some_exit}

-- a mask of ones alone has all bits of each prefix
full_byte : IsByte (codes "255") 255
full_byte = record { decimal = record { digits = (omega arith, (omega arith, (omega arith, (omega arith, tt)))); few = omega arith; value = refl }; within = omega arith }

full_address : IsAddress (codes "255.255.255.255") 4294967295
full_address = record {
  first = codes "255";
  second = codes "255";
  third = codes "255";
  fourth = codes "255";
  a = 255;
  b = 255;
  c = 255;
  d = 255;
  spelled = refl;
  first_byte = full_byte;
  second_byte = full_byte;
  third_byte = full_byte;
  fourth_byte = full_byte;
  value = refl;
}

full_mask : (prefix : ℕ) → IsMaskOf prefix 32 4294967295
full_mask prefix = record { ones = record { few = omega arith; value = refl }; inside = omega arith }

-- the words behind the mask
some_mask : (b : Bool) (prefix : ℕ) → SomeMask prefix b (codes "255.255.255.255" ∷ codes "0.0.0.0" ∷ [])
some_mask b prefix = let behind = some_exit b in (
  32,
  behind.0,
  behind.1,
  record {
    word = codes "255.255.255.255";
    mask = 4294967295;
    more = codes "0.0.0.0" ∷ [];
    whole = refl;
    is = full_address;
    ones = λ strict. full_mask prefix;
    behind = behind.2;
  },
)

-- what stands first
mask_address : (b : Bool) (prefix : ℕ) (word : List ℕ) (rest : Words) → (h : SomeMask prefix b (word ∷ rest)) → IsAddress word h.3.mask
mask_address b prefix word rest h = let first : word ≡ h.3.word = (let whole = h.3.whole in cc) in rw first h.3.is

mask_behind : (b : Bool) (prefix : ℕ) (word : List ℕ) (rest : Words) → (h : SomeMask prefix b (word ∷ rest)) → HasExit b h.1 h.2 rest
mask_behind b prefix word rest h = let same : rest ≡ h.3.more = (let whole = h.3.whole in cc) in rw same h.3.behind

no_mask_left : (b : Bool) (prefix : ℕ) → SomeMask prefix b [] → ⊥
no_mask_left b prefix h = let whole = h.3.whole in cc

-- no address stands there
pub mask_address_stop : (prefix : ℕ) (words : Words) (stop : Stop) → stop.left ≡ length words → stop.due ≡ due.Address → ((b : Bool) → LacksFirst (SomeMask prefix b) words)
    → IsStop NoName (SomeMask prefix) words stop
mask_address_stop prefix words stop left is lacks =
    stop_at_address (SomeMask prefix) words stop left is
    (codes "255.255.255.255", (4294967295, full_address), (codes "0.0.0.0" ∷ [], some_mask false prefix))
    (λ h. no_number_address h.0 h.2.1.3.mask h.1 (mask_address false prefix h.0 h.2.0 h.2.1))
    (no_mask_left false prefix) lacks

pub no_mask_begins : (prefix : ℕ) (word : List ℕ) → ((n : ℕ) → IsAddress word n → ⊥) → (b : Bool) → Begins (SomeMask prefix b) (word ∷ []) → ⊥
no_mask_begins prefix word none b begins = none begins.1.3.mask (mask_address b prefix word begins.0 begins.1)

pub mask_short_stop : (prefix : ℕ) (words : Words) (stop : Stop) → stop.left ≡ length words → stop.due ≡ due.Address → words ≡ [] → IsStop NoName (SomeMask prefix) words stop
mask_short_stop prefix words stop left is none = mask_address_stop prefix words stop left is (λ b. lacks_none (SomeMask prefix b) words none)

pub mask_word_stop : (prefix : ℕ) (words rest : Words) (word : List ℕ) (stop : Stop) → stop.left ≡ length words → stop.due ≡ due.Address → words ≡ word ∷ rest
    → ((n : ℕ) → IsAddress word n → ⊥) → IsStop NoName (SomeMask prefix) words stop
mask_word_stop prefix words rest word stop left is whole none =
    mask_address_stop prefix words stop left is (λ b. lacks_word (SomeMask prefix b) words rest word whole (no_mask_begins prefix word none b))

-- an address that is no mask stands there
pub mask_stop : (prefix mask : ℕ) (words rest : Words) (word : List ℕ) (stop : Stop) → stop.left ≡ length words → stop.due ≡ due.Mask → words ≡ word ∷ rest
    → IsAddress word mask → ((len : ℕ) → IsMaskOf prefix len mask → ⊥) → IsStop NoName (SomeMask prefix) words stop
mask_stop prefix mask words rest word stop left is whole address none = stop_first (SomeMask prefix) words stop left (rw (is, whole) before)
  where
    stops : Begins (SomeMask prefix false) (word ∷ []) → ⊥
    stops begins =
        let same : begins.1.3.mask ≡ mask = address_is_one word begins.1.3.mask mask (mask_address false prefix word begins.0 begins.1) address in
        none begins.1.0 (rw same at (begins.1.3.ones refl))

    lax : SomeMask prefix true (word ∷ codes "0.0.0.0" ∷ [])
    lax = let behind = some_exit true in (
      0,
      behind.0,
      behind.1,
      record {
        word = word;
        mask = mask;
        more = codes "0.0.0.0" ∷ [];
        whole = refl;
        is = address;
        ones = λ strict. absurd (cc strict);
        behind = behind.2;
      },
    )

    before : StopsBefore NoName (SomeMask prefix) [] due.Mask (word ∷ rest)
    before = specs.word word rest (record {
      begins = (codes "255.255.255.255" ∷ codes "0.0.0.0" ∷ [], some_mask false prefix);
      stops = stops;
      expected = record {
        address = expected (codes "255.255.255.255", (4294967295, full_address), (codes "0.0.0.0" ∷ [], some_mask false prefix));
        number = unexpected (λ h. no_number_address h.0 h.2.1.3.mask h.1 (mask_address false prefix h.0 h.2.0 h.2.1));
        name = unexpected (λ h. h.1.1);
        whole = unexpected (no_mask_left false prefix);
      };
      lax = expected (codes "0.0.0.0" ∷ [], lax);
    })

-- behind a mask
pub mask_behind_stop : (prefix len mask : ℕ) (words rest : Words) (word : List ℕ) (stop : Stop) → words ≡ word ∷ rest → IsAddress word mask → IsMaskOf prefix len mask
    → IsStop NoName SomeExit rest stop → IsStop NoName (SomeMask prefix) words stop
mask_behind_stop prefix len mask words rest word stop whole address is stops = stop_behind (SomeMask prefix) SomeExit words (word ∷ []) rest stop whole same stops
  where
    same : (b : Bool) (x : Words) → SomeMask prefix b (word ∷ x) ↔ SomeExit b x
    same b x = (
      λ h. (h.1, h.2, mask_behind b prefix word x h),
      λ h. (
        len,
        h.0,
        h.1,
        record {
          word = word;
          mask = mask;
          more = x;
          whole = refl;
          is = address;
          ones = λ strict. is;
          behind = h.2;
        },
      ),
    )

-- a line behind its prefix
line_address : (b : Bool) (word : List ℕ) (rest : Words) → (h : Line b (word ∷ rest)) → IsAddress word h.0.prefix
line_address b word rest h = let first : word ≡ h.1.prefix_word = (let whole = h.1.whole in cc) in rw first h.1.prefix

no_line_left : (b : Bool) → Line b [] → ⊥
no_line_left b h = let whole = h.1.whole in cc

with_prefix : (b : Bool) (line prefix : ℕ) (word : List ℕ) (rest : Words) → IsAddress word prefix → (h : SomeMask prefix b rest)
    → IsRoute b (record { line = line; prefix = prefix; len = h.0; exit = h.1; distance = h.2 }) (word ∷ rest)
with_prefix b line prefix word rest address h = record {
  prefix_word = word;
  mask_word = h.3.word;
  mask = h.3.mask;
  more = h.3.more;
  whole = let whole = h.3.whole in rw whole refl;
  prefix = address;
  mask_is = h.3.is;
  len = h.3.ones;
  exit = h.3.behind;
}

line_masked : (b : Bool) (word : List ℕ) (rest : Words) → (h : Line b (word ∷ rest)) → SomeMask h.0.prefix b rest
line_masked b word rest h = (
  h.0.len,
  h.0.exit,
  h.0.distance,
  record {
    word = h.1.mask_word;
    mask = h.1.mask;
    more = h.1.more;
    whole = let whole = h.1.whole in cc;
    is = h.1.mask_is;
    ones = h.1.len;
    behind = h.1.exit;
  },
)

pub some_line : (b : Bool) → Line b (codes "0.0.0.0" ∷ codes "255.255.255.255" ∷ codes "0.0.0.0" ∷ [])
some_line b = let masked = some_mask b 0 in (
  record { line = 0; prefix = 0; len = masked.0; exit = masked.1; distance = masked.2 },
  with_prefix b 0 0 (codes "0.0.0.0") (codes "255.255.255.255" ∷ codes "0.0.0.0" ∷ []) zero_address masked,
)

prefix_stop : (words : Words) (stop : Stop) → stop.left ≡ length words → stop.due ≡ due.Address → ((b : Bool) → LacksFirst (Line b) words) → IsStop NoName Line words stop
prefix_stop words stop left is lacks =
    stop_at_address Line words stop left is
    (codes "0.0.0.0", (0, zero_address), (codes "255.255.255.255" ∷ codes "0.0.0.0" ∷ [], some_line false))
    (λ h. no_number_address h.0 h.2.1.0.prefix h.1 (line_address false h.0 h.2.0 h.2.1))
    (no_line_left false) lacks

pub line_short_stop : (words : Words) (stop : Stop) → stop.left ≡ length words → stop.due ≡ due.Address → words ≡ [] → IsStop NoName Line words stop
line_short_stop words stop left is none = prefix_stop words stop left is (λ b. lacks_none (Line b) words none)

pub line_word_stop : (words rest : Words) (word : List ℕ) (stop : Stop) → stop.left ≡ length words → stop.due ≡ due.Address → words ≡ word ∷ rest
    → ((n : ℕ) → IsAddress word n → ⊥) → IsStop NoName Line words stop
line_word_stop words rest word stop left is whole none =
    prefix_stop words stop left is (λ b. lacks_word (Line b) words rest word whole (λ begins. none begins.1.0.prefix (line_address b word begins.0 begins.1)))

pub line_behind_stop : (words rest : Words) (word : List ℕ) (prefix : ℕ) (stop : Stop) → words ≡ word ∷ rest → IsAddress word prefix → IsStop NoName (SomeMask prefix) rest stop
    → IsStop NoName Line words stop
line_behind_stop words rest word prefix stop whole address stops = stop_behind Line (SomeMask prefix) words (word ∷ []) rest stop whole same stops
  where
    to : (b : Bool) (x : Words) → Line b (word ∷ x) → SomeMask prefix b x
    to b x h = let same : h.0.prefix ≡ prefix = address_is_one word h.0.prefix prefix (line_address b word x h) address in rw same at (line_masked b word x h)

    same : (b : Bool) (x : Words) → Line b (word ∷ x) ↔ SomeMask prefix b x
    same b x = (to b x, λ h. (record { line = 0; prefix = prefix; len = h.0; exit = h.1; distance = h.2 }, with_prefix b 0 prefix word x address h))
