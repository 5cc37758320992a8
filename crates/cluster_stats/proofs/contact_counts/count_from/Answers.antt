use Rattle.std.proofs.Common.{◌≡◌, ℕ, ◌+◌, ◌<◌, [], length, get_or, take, cond, Some, nat_eq, nat_lt, refl, sym, ap, ◌∙◌, arith}
use Rattle.std.proofs.lemmas.List.{take_all}
use Rattle.bfm_base.specs.Place.{extent_of}
use Rattle.bfm_world.specs.Configuration.{class_at}
use Rattle.cluster_stats.specs.declared.shell.TheConstants.{SHELL}
use Rattle.cluster_stats.specs.Contacts.{class_pair}
use Rattle.cluster_stats.specs.Places.{vector_of, vector_to}
use Rattle.cluster_stats.proofs.ShellLemmas.{short_at}
use Rattle.cluster_stats.proofs.TallyLemmas.{AreCounted-after, AreCounted-before, AreCounted-free, AreCounted-none, counted_at, hits, hits-all, hits-with, is_later_with}
use Rattle.cluster_stats.proofs.contact_counts.count_from.Goals as goal
use Rattle.cluster_stats.proofs.contact_counts.count_from.Goals.{in-Some+then-i-j, in-Some+else-i-j, in_default}

pub loop-offset-init : goal.loop-offset-init
loop-offset-init c = record { table = refl; counted = AreCounted-none c.args.world.now c.args.i c.args.counts.now }

pub monomer_at-requires-clause-near : goal.monomer_at-requires-clause-near
monomer_at-requires-clause-near c = omega (arith, ap extent_of c.vector.ensures, short_at c.loop-offset.offset-index [] c.loop-offset-test.true)

pub loop-offset-preserved : goal.loop-offset-preserved
loop-offset-preserved c =
    let found = c.monomer_at.result in
    let within : c.loop-offset.offset-index < length SHELL = c.loop-offset-test.true in
    let all : (j : ℕ) → j < length c.args.world.now.positions → vector_to c.args.world.now c.args.i j ≡ vector_of (get_or SHELL c.loop-offset.offset-index []) → c.monomer_at.result ≡ Some j =
    λ j l v. c.monomer_at.ensures.all j l (v ∙ sym c.vector.ensures) in
    record {
      table = refl;
      counted = elim c.match-monomer_at.branch [
        | in-Some+then-i-j w ↦
            let pair : class_pair w.class.result w.class-then-i-j.result ≡ class_pair (class_at c.args.world.now c.args.i) (class_at c.args.world.now w.in-Some.j) =
            ap (λ a. class_pair a w.class-then-i-j.result) w.class.ensures.class ∙ ap (class_pair (class_at c.args.world.now c.args.i)) w.class-then-i-j.ensures.class in
            rw w.counts-is
            (AreCounted-after c.args.world.now c.args.i c.loop-offset.offset-index [] c.args.counts.now c.loop-offset.counts within c.loop-offset.invariant.counted found all w.in-Some.j
            w.in-Some.is w.in-Some.ensures.there.0 (w.in-Some.ensures.there.1 ∙ c.vector.ensures) w.add.new.self w.if-i-j.true
            (λ q s. w.add.ensures.counts q s ∙ ap (λ p. counted_at c.loop-offset.counts q + cond (nat_eq p q) 1 0) pair) w.add.ensures.total)
        | in-Some+else-i-j w ↦
            rw w.counts-is
            (AreCounted-before c.args.world.now c.args.i c.loop-offset.offset-index [] c.args.counts.now c.loop-offset.counts within c.loop-offset.invariant.counted found all w.in-Some.j
            w.in-Some.is w.in-Some.ensures.there.0 (w.in-Some.ensures.there.1 ∙ c.vector.ensures) w.if-i-j.false)
        | in_default w ↦
            rw w.counts-is
            (AreCounted-free c.args.world.now c.args.i c.loop-offset.offset-index [] c.args.counts.now c.loop-offset.counts within c.loop-offset.invariant.counted found all w.in_default.is)
      ];
    }

pub returns-clause-counts : goal.returns-clause-counts
returns-clause-counts c q l =
    let table : take c.loop-offset.offset-index SHELL ≡ SHELL = take_all c.loop-offset.offset-index SHELL c.loop-offset-test.false in
    c.loop-offset.invariant.counted.counts q l
    ∙ ap (λ n. counted_at c.args.counts.now q + n)
    (ap (hits c.args.world.now c.args.i (is_later_with c.args.world.now c.args.i q)) table
    ∙ hits-with c.args.world.now c.args.i (λ j. nat_eq (class_pair (class_at c.args.world.now c.args.i) (class_at c.args.world.now j)) q))

pub returns-clause-total : goal.returns-clause-total
returns-clause-total c =
    let table : take c.loop-offset.offset-index SHELL ≡ SHELL = take_all c.loop-offset.offset-index SHELL c.loop-offset-test.false in
    c.loop-offset.invariant.counted.total
    ∙ ap (λ n. c.args.counts.now.total + n) (ap (hits c.args.world.now c.args.i (nat_lt c.args.i)) table ∙ hits-all c.args.world.now c.args.i)
