-- How a command ran, from how it came to its end: what it doesn't take stays.
use Rattle.std.proofs.Common.{◌≡◌, ◌+◌, ℕ, List, [], ◌∷◌, ◌++◌, true, false, Result, refl, inl, sym, subst, ◌∙◌, arith}
use Rattle.jass_top.specs.declared.stop.Stop.{Stop}
use Rattle.jass_top.specs.declared.stop.Stop.TheVariants as stops
use Rattle.jass_top.specs.Causes.{IsOneOf}
use Rattle.jass_top.specs.Private.Causes.{Came, Runs, Stopped, Unheld, Unread}
use Rattle.jass_top.specs.Meanings.{Meaning}
use Rattle.jass_top.specs.Standing.{CountsPart, Keeps}
use Rattle.jass_top.specs.Worlds.{Outer}

pub same : (x : Outer) → Keeps x x
same x = record { told = refl; written = refl; left = refl; steps = refl }

-- so many steps were counted, or none
pub counted : (x y : Outer) (count : ℕ) → y.steps ≡ x.steps + count → CountsPart x y count
counted x y count is = record { never_less = omega (arith, is); at_most = omega (arith, is) }

pub uncounted : (x y : Outer) (most : ℕ) → y.steps ≡ x.steps → CountsPart x y most
uncounted x y most is = record { never_less = omega (arith, is); at_most = omega (arith, is) }

-- ---- what a command takes

module _ {m : Meaning} {x y : Outer} {result : Result (Unit {0}) Stop} where
  -- files and the output
  pub ran_on_both : {name : List ℕ} {more : List (List ℕ)} → m.files ≡ name ∷ more → m.prints ≡ true → m.feeds ≡ false → y.left ≡ x.left → y.feed_faults ≡ x.feed_faults → y.out_rest ≡ x.out_rest → Came m x y result → Runs m x y result
  ran_on_both {name} {more} files prints feeds left feed_faults rest came = record {
    came = came;
    untouched = record {
      no_files = λ none file. (let bad : name ∷ more ≡ [] = sym files ∙ none in cc);
      no_output = λ none. (let bad : true ≡ false = sym prints ∙ none in cc);
      no_feed = λ none. (left, feed_faults);
      rest = rest;
    };
    taken = λ is. (let bad : false ≡ true = sym feeds ∙ is in cc);
  }

  -- files that end with one of their own, and the output
  pub ran_on_all : (names : List (List ℕ)) (last : List ℕ) → m.files ≡ names ++ last ∷ [] → m.prints ≡ true → m.feeds ≡ false → y.left ≡ x.left → y.feed_faults ≡ x.feed_faults → y.out_rest ≡ x.out_rest → Came m x y result → Runs m x y result
  ran_on_all [] last files = ran_on_both files
  ran_on_all (name ∷ names) last files = ran_on_both files

  -- files alone
  pub ran_on_files : {name : List ℕ} {more : List (List ℕ)} → m.files ≡ name ∷ more → m.feeds ≡ false → y.written ≡ x.written → y.out_faults ≡ x.out_faults → y.left ≡ x.left → y.feed_faults ≡ x.feed_faults → y.out_rest ≡ x.out_rest
      → Came m x y result → Runs m x y result
  ran_on_files {name} {more} files feeds written out_faults left feed_faults rest came = record {
    came = came;
    untouched = record {
      no_files = λ none file. (let bad : name ∷ more ≡ [] = sym files ∙ none in cc);
      no_output = λ none. (written, out_faults);
      no_feed = λ none. (left, feed_faults);
      rest = rest;
    };
    taken = λ is. (let bad : false ≡ true = sym feeds ∙ is in cc);
  }

  -- the output alone
  pub ran_on_output : m.prints ≡ true → m.feeds ≡ false → y.told ≡ x.told → y.read_faults ≡ x.read_faults → y.write_faults ≡ x.write_faults → y.left ≡ x.left → y.feed_faults ≡ x.feed_faults → y.out_rest ≡ x.out_rest
      → Came m x y result → Runs m x y result
  ran_on_output prints feeds told read_faults write_faults left feed_faults rest came = record {
    came = came;
    untouched = record {
      no_files = λ none file. (told, read_faults, write_faults);
      no_output = λ none. (let bad : true ≡ false = sym prints ∙ none in cc);
      no_feed = λ none. (left, feed_faults);
      rest = rest;
    };
    taken = λ is. (let bad : false ≡ true = sym feeds ∙ is in cc);
  }

-- ---- how it stopped

-- an index file couldn't be held in memory, before the command left anything
pub stopped : (m : Meaning) (x : Outer) (stop : Stop) → Unheld m.reads (m.judge x.told) stop → Stopped m x x stop
stopped m x stops.NoMemory unheld = inl (same x)
stopped m x (stops.Refused name number at) unheld = (unheld.0, unheld.1, same x)
stopped m x (stops.ReadFault name) unheld = absurd unheld
stopped m x (stops.WriteFault name) unheld = absurd unheld
stopped m x stops.InputLimit unheld = absurd unheld

-- the inputs weren't had, which are all files, before the command left anything
pub stopped_unread : (m : Meaning) (x y : Outer) (stop : Stop) → m.files ≡ m.reads → Keeps x y → Unread m.reads (m.judge x.told) x.read_faults y.read_faults stop → Stopped m x y stop
stopped_unread m x y stops.NoMemory files keeps unread = inl keeps
stopped_unread m x y (stops.Refused name number at) files keeps unread = (unread.0, unread.1, keeps)
stopped_unread m x y (stops.ReadFault name) files keeps unread =
    inl (record { input = subst (λ (names : List (List ℕ)). IsOneOf names name.now) (sym files) unread.0; cause = unread.1; stands = inl keeps })
stopped_unread m x y (stops.WriteFault name) files keeps unread = absurd unread
stopped_unread m x y stops.InputLimit files keeps unread = absurd unread
