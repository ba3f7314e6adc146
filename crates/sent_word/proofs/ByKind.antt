-- Reading a word, and changing it, by its kind. Assumes nothing.
use Rattle.std.proofs.Common.{◌≡◌, ℕ, ◌<◌, ◌≤◌, arith, le-ltb, lt-ltb, eq-eqb, ne_eqb}
use Rattle.lists.proofs.Cases.{split_le, split_eq}
use Rattle.metric.specs.Metric.{received_bit}
use Rattle.sent_word.specs.Word.{not_registered, not_reported, missing, kind_of, held_status, read_word_of, registered_word, received_word, word_reported}
use Rattle.sent_word.specs.declared.Status.TheVariants.{NotReported, Missing}
use Rattle.std.specs.Prelude.{Some, None}

module _ (word : ℕ) where
  pub read_none : kind_of word ≡ not_registered → read_word_of word ≡ None
  unfolding read_word_of
  read_none e = rw (eq-eqb (kind_of word) not_registered e)

  pub read_not_reported : kind_of word ≡ not_reported → read_word_of word ≡ Some NotReported
  unfolding read_word_of
  read_not_reported e = rw (ne_eqb (kind_of word) not_registered (λ f. omega arith), eq-eqb (kind_of word) not_reported e)

  pub read_missing : kind_of word ≡ missing → read_word_of word ≡ Some Missing
  unfolding read_word_of
  read_missing e =
      rw (ne_eqb (kind_of word) not_registered (λ f. omega arith), ne_eqb (kind_of word) not_reported (λ f. omega arith), eq-eqb (kind_of word) missing e)

  pub read_received : missing < kind_of word → read_word_of word ≡ Some (held_status word)
  unfolding read_word_of
  read_received l =
      rw (ne_eqb (kind_of word) not_registered (λ f. omega arith), ne_eqb (kind_of word) not_reported (λ f. omega arith), ne_eqb (kind_of word) missing (λ f. omega arith))

  -- a registered word is of one of the three other kinds
  pub by_kind : {P : Type 0} → (kind_of word ≡ not_registered → ⊥)
      → (kind_of word ≡ not_reported → P) → (kind_of word ≡ missing → P) → (missing < kind_of word → P) → P
  by_kind n a b d = split_eq (kind_of word) not_reported a (λ m. split_le (kind_of word) missing (λ l. b (omega arith)) d)

  pub registered_new : kind_of word ≡ not_registered → registered_word word ≡ not_reported
  unfolding registered_word
  registered_new e = rw (eq-eqb (kind_of word) not_registered e)

  pub registered_again : (kind_of word ≡ not_registered → ⊥) → registered_word word ≡ word
  unfolding registered_word
  registered_again n = rw (ne_eqb (kind_of word) not_registered n)

  module _ (metric rts : ℕ) where
    pub reported_none : kind_of word ≡ not_registered → word_reported metric rts word ≡ word
    unfolding word_reported
    reported_none e = rw (eq-eqb (kind_of word) not_registered e)

    module _ (known : kind_of word ≡ not_registered → ⊥) where
      pub reported_received : received_bit ≤ metric → word_reported metric rts word ≡ received_word metric rts
      unfolding word_reported
      reported_received l = rw (ne_eqb (kind_of word) not_registered known, le-ltb metric received_bit l)

      pub reported_missing : metric < received_bit → kind_of word ≡ not_reported → word_reported metric rts word ≡ missing
      unfolding word_reported
      reported_missing l e = rw (ne_eqb (kind_of word) not_registered known, lt-ltb metric received_bit l, eq-eqb (kind_of word) not_reported e)

      pub reported_kept : metric < received_bit → (kind_of word ≡ not_reported → ⊥) → word_reported metric rts word ≡ word
      unfolding word_reported
      reported_kept l n = rw (ne_eqb (kind_of word) not_registered known, lt-ltb metric received_bit l, ne_eqb (kind_of word) not_reported n)
