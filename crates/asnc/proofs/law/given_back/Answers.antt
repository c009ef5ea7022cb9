use Rattle.asnc.proofs.law.given_back.Goals as goal

pub returns-clause-read : goal.returns-clause-read
returns-clause-read c = λ xs p s r name o t k a w h u l.
    (let b = c.printed.ensures.read xs p s r name o t k w.named.is.within a w h u l in
    record {
      within = w.named.is.within;
      notation = b.tree;
      named = record {
        typed = w.named.is;
        given = record {
          within = record { name = w.named.is.name; is = w.named.is.is };
          is = c.lemma_read_is_notation.ensures t b.tokens b.tree b.lexed b.read;
        };
      };
      is_so = b.typed;
    })

pub returns-clause-unpacked : goal.returns-clause-unpacked
returns-clause-unpacked c = λ xs p s name o t k a w h u l.
    (let b = c.printed.ensures.unpacked xs p s name o t k w.named.is.within a w h u l in
    record {
      within = w.named.is.within;
      notation = b.tree;
      named = record {
        typed = w.named.is;
        given = record {
          within = record { name = w.named.is.name; is = w.named.is.is };
          is = c.lemma_read_is_notation.ensures t b.tokens b.tree b.lexed b.read;
        };
      };
      is_so = b.typed;
    })
