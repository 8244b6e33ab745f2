use Rattle.std.proofs.Common.{ℕ, rules}
use Rattle.ios_lex.specs.Address.{AreParts, IsAddress}
use Rattle.ios_lex.proofs.AddressParts.{address_parts, bytes_of_parts}
use Rattle.ios_lex.proofs.addresses.address.Goals as goal

pub returns-in_err-a-clause-none : goal.returns-in_err-a-clause-none
returns-in_err-a-clause-none c =
    let parts : AreParts c.args.word.now c.in_ok-first.first.now c.in_ok-first.second.now c.in_ok-first.third.now c.in_ok-first.fourth.now = search rules in
    let refuted : (n : ℕ) → IsAddress c.args.word.now n → ⊥ =
    λ n h. let bytes = bytes_of_parts c.args.word.now _ _ _ _ n parts h in c.in_err-a.ensures.none bytes.a bytes.first_byte in
    rw c.from_residual-in_err-a.ensures refuted

pub returns-in_err-b-clause-none : goal.returns-in_err-b-clause-none
returns-in_err-b-clause-none c =
    let parts : AreParts c.args.word.now c.in_ok-first.first.now c.in_ok-first.second.now c.in_ok-first.third.now c.in_ok-first.fourth.now = search rules in
    let refuted : (n : ℕ) → IsAddress c.args.word.now n → ⊥ =
    λ n h. let bytes = bytes_of_parts c.args.word.now _ _ _ _ n parts h in c.in_err-b.ensures.none bytes.b bytes.second_byte in
    rw c.from_residual-in_err-b.ensures refuted

pub returns-in_err-c-clause-none : goal.returns-in_err-c-clause-none
returns-in_err-c-clause-none c =
    let parts : AreParts c.args.word.now c.in_ok-first.first.now c.in_ok-first.second.now c.in_ok-first.third.now c.in_ok-first.fourth.now = search rules in
    let refuted : (n : ℕ) → IsAddress c.args.word.now n → ⊥ =
    λ n h. let bytes = bytes_of_parts c.args.word.now _ _ _ _ n parts h in c.in_err-c.ensures.none bytes.c bytes.third_byte in
    rw c.from_residual-in_err-c.ensures refuted

pub returns-in_err-d-clause-none : goal.returns-in_err-d-clause-none
returns-in_err-d-clause-none c =
    let parts : AreParts c.args.word.now c.in_ok-first.first.now c.in_ok-first.second.now c.in_ok-first.third.now c.in_ok-first.fourth.now = search rules in
    let refuted : (n : ℕ) → IsAddress c.args.word.now n → ⊥ =
    λ n h. let bytes = bytes_of_parts c.args.word.now _ _ _ _ n parts h in c.in_err-d.ensures.none bytes.d bytes.fourth_byte in
    rw c.from_residual-in_err-d.ensures refuted

pub returns-in_err-first-clause-none : goal.returns-in_err-first-clause-none
returns-in_err-first-clause-none c =
    let refuted : (n : ℕ) → IsAddress c.args.word.now n → ⊥ =
    λ n h. c.in_err-first.ensures.none h.first h.second h.third h.fourth (address_parts c.args.word.now n h) in
    rw c.from_residual.ensures refuted

pub returns-clause-found : goal.returns-clause-found
returns-clause-found c =
    let parts : AreParts c.args.word.now c.in_ok-first.first.now c.in_ok-first.second.now c.in_ok-first.third.now c.in_ok-first.fourth.now = search rules in
    record {
      first = c.in_ok-first.first.now;
      second = c.in_ok-first.second.now;
      third = c.in_ok-first.third.now;
      fourth = c.in_ok-first.fourth.now;
      a = c.in_ok-a.a;
      b = c.in_ok-b.b;
      c = c.in_ok-c.c;
      d = c.in_ok-d.d;
      spelled = parts.whole;
      first_byte = c.in_ok-a.ensures.found;
      second_byte = c.in_ok-b.ensures.found;
      third_byte = c.in_ok-c.ensures.found;
      fourth_byte = c.in_ok-d.ensures.found;
      value = c.from_be_bytes.ensures;
    }
